-- `flow::flow_check_masks` meets its contract: the numbers of the answer are small.
-- Assumes nothing.
use Rattle.flow.proofs.MasksAfter.{lent-small, lent-packed}
use Rattle.flow.proofs.flow_check_masks.Goals as goal

pub pack-requires : goal.pack-requires
pack-requires c = lent-small _ _ _ c.check_with_masks.ensures

pub returns : goal.returns
returns c = lent-packed _ _ _ c.check_with_masks.ensures c.pack.ensures
