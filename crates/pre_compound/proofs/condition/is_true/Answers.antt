-- `pre_compound::condition::is_true` meets its contract.
-- Assumes nothing.
use Rattle.pre_compound.proofs.Assertions.{can-true, true-at}
use Rattle.pre_compound.proofs.condition.is_true.Goals as goal

pub same_antecedent-requires : goal.same_antecedent-requires
same_antecedent-requires c = can-true c.requires

pub returns : goal.returns
returns c = true-at c.same_antecedent.ensures
