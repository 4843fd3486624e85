-- `reader::set::read_consequent` meets its contract: the sort is that of the first word's kind.
-- Assumes nothing.
use Rattle.reader.proofs.Walks.{first-part}
use Rattle.reader.proofs.set.read_consequent.Goals as goal

pub returns : goal.returns
returns c = first-part _ _ _ (rw c.sort_at.ensures at c.read_operand.ensures)
