-- `scan::range::closed` meets its contract: every identifier is in the largest mask.
-- Assumes nothing.
use Rattle.scan.proofs.Trees.{closed_tree}
use Rattle.scan.proofs.range.closed.Goals as goal

pub returns : goal.returns
returns c = closed_tree _ _ _ _ c.any_marked.ensures
