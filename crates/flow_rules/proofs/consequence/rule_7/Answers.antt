-- `flow_rules::consequence::rule_7` meets its contract.
-- Assumes nothing.
use Rattle.flow_rules.proofs.ConsequenceRules.{before-comes}
use Rattle.flow_rules.proofs.consequence.rule_7.Goals as goal

pub returns : goal.returns
returns c = before-comes c.requires
