-- `scan::range::modified` meets its contract: the words assign what the command modifies.
-- Assumes nothing.
use Rattle.scan.proofs.Trees.{modified_tree}
use Rattle.scan.proofs.range.modified.Goals as goal

pub marks_between-requires : goal.marks_between-requires
marks_between-requires c = (c.requires.0.blocks, c.requires.1)

pub returns : goal.returns
returns c = modified_tree _ _ c.marks_between.ensures
