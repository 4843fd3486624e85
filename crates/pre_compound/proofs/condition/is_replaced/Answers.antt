-- `pre_compound::condition::is_replaced` meets its contract.
-- Assumes nothing.
use Rattle.pre_compound.proofs.Assertions.{right-listed, can-replace, replaced-at}
use Rattle.pre_compound.proofs.condition.is_replaced.Goals as goal

pub end_at-to-requires : goal.end_at-to-requires
end_at-to-requires c = right-listed c.requires

pub same_antecedent-requires : goal.same_antecedent-requires
same_antecedent-requires c = can-replace _ c.end_at-to.ensures c.requires

pub returns : goal.returns
returns c = replaced-at _ c.end_at-to.ensures c.same_antecedent.ensures
