-- `workbench::finish` meets its contract: the masks of the changed file are stored, and the new command stands in the file.
-- Assumes nothing.
use Rattle.replacement.proofs.Puts.{can_store, finish-done}
use Rattle.workbench.proofs.finish.Goals as goal

pub fill-requires : goal.fill-requires
fill-requires c = can_store _ c.requires

pub returns : goal.returns
returns c = finish-done _ c.requires c.fill.ensures c.copy.ensures
