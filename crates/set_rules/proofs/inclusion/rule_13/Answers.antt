-- `set_rules::inclusion::rule_13` meets its contract.
-- Assumes nothing.
use Rattle.set_rules.proofs.Inclusions.{within-rule}
use Rattle.set_rules.proofs.inclusion.rule_13.Goals as goal

pub returns : goal.returns
returns c =
    within-rule c.requires c.is_within.ensures
    c.ensure.ensures
