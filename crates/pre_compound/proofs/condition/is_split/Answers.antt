-- `pre_compound::condition::is_split` meets its contract.
-- Assumes nothing.
use Rattle.pre_compound.proofs.Assertions.{can-split, split_at}
use Rattle.pre_compound.proofs.condition.is_split.Goals as goal

pub same_antecedent-requires : goal.same_antecedent-requires
same_antecedent-requires c = can-split c.requires

pub returns : goal.returns
returns c = split_at c.same_antecedent.ensures
