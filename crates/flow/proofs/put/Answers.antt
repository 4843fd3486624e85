-- `flow::put` meets its contract: raised settings refuse nothing that is put.
-- Assumes nothing.
use Rattle.flow.proofs.PutRaised.{put_under}
use Rattle.flow.proofs.put.Goals as goal

pub returns : goal.returns
returns c = put_under c.put.ensures
