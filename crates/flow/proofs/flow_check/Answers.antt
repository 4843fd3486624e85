-- `flow::flow_check` meets its contract: the numbers of the answer are small, and the settings are document 01's limits.
-- Assumes nothing.
use Rattle.flow.proofs.Packed.{same-checked, checked-small, checked-packed}
use Rattle.flow.proofs.flow_check.Goals as goal

pub pack-requires : goal.pack-requires
pack-requires c = checked-small c.check.ensures

pub returns : goal.returns
returns c = checked-packed (same-checked c.standard_settings.ensures c.check.ensures) c.pack.ensures
