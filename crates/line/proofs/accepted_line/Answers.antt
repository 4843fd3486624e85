-- `line::accepted_line` meets its contract: the count is put behind the word.
use Rattle.line.proofs.Lines.{accepted-line}
use Rattle.line.proofs.accepted_line.Goals as goal

pub returns : goal.returns
returns c = accepted-line _ c.requires.room c.put-next.ensures c.put_number.ensures
