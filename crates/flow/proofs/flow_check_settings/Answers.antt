-- `flow::flow_check_settings` meets its contract: the numbers of the answer are small.
-- Assumes nothing.
use Rattle.flow.proofs.Packed.{checked-small, checked-packed}
use Rattle.flow.proofs.flow_check_settings.Goals as goal

pub pack-requires : goal.pack-requires
pack-requires c = checked-small c.check.ensures

pub returns : goal.returns
returns c = checked-packed c.check.ensures c.pack.ensures
