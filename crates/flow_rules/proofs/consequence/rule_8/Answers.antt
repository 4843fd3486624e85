-- `flow_rules::consequence::rule_8` meets its contract.
-- Assumes nothing.
use Rattle.flow_rules.proofs.ConsequenceRules.{after-comes}
use Rattle.flow_rules.proofs.consequence.rule_8.Goals as goal

pub returns : goal.returns
returns c = after-comes c.requires
