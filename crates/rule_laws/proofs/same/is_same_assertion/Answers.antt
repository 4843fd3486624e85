-- `rule_laws::same::is_same_assertion` meets its contract.
-- Assumes nothing.
use Rattle.rule_laws.proofs.Passing.{can-assertion, assertion-at}
use Rattle.rule_laws.proofs.same.is_same_assertion.Goals as goal

pub same_antecedent-requires : goal.same_antecedent-requires
same_antecedent-requires c = can-assertion c.requires

pub returns : goal.returns
returns c = assertion-at c.same_antecedent.ensures
