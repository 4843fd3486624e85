-- `pre_compound::condition::is_join` meets its contract.
-- Assumes nothing.
use Rattle.pre_compound.proofs.Assertions.{can-join, join-at}
use Rattle.pre_compound.proofs.condition.is_join.Goals as goal

pub same_antecedent-requires : goal.same_antecedent-requires
same_antecedent-requires c = can-join c.requires

pub returns : goal.returns
returns c = join-at c.same_antecedent.ensures
