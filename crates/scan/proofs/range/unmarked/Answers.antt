-- `scan::range::unmarked` meets its contract: the words have the identifiers of what stands there.
-- Assumes nothing.
use Rattle.scan.proofs.Trees.{unmarked_tree}
use Rattle.scan.proofs.range.unmarked.Goals as goal

pub returns : goal.returns
returns c = unmarked_tree _ _ _ _ _ c.any_marked.ensures
