-- `rule_laws::same::is_same_consequent` meets its contract.
-- Assumes nothing.
use Rattle.rule_laws.proofs.Passing.{can-consequent, consequent-at}
use Rattle.rule_laws.proofs.same.is_same_consequent.Goals as goal

pub same_consequent-requires : goal.same_consequent-requires
same_consequent-requires c = can-consequent c.requires

pub returns : goal.returns
returns c = consequent-at c.same_consequent.ensures
