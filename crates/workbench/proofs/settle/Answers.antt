-- `workbench::settle` meets its contract: the changed file is read, or the call is refused as 18.
-- Assumes nothing.
use Rattle.replacement.proofs.Puts.{can-finish, change-unread}
use Rattle.workbench.proofs.settle.Goals as goal

pub finish-requires : goal.finish-requires
finish-requires c = can-finish c.args.masks.now c.requires c.in-Ok.is

pub returns-in-Err : goal.returns-in-Err
returns-in-Err c = change-unread c.args.masks.now c.requires c.in-Err.is c.refused.ensures
