-- `pre_rules::consequence::rule_29` meets its contract.
-- Assumes nothing.
use Rattle.pre_compound.proofs.Goal.{first-boolean}
use Rattle.pre_rules.proofs.Consequences.{true-rule}
use Rattle.pre_rules.proofs.consequence.rule_29.Goals as goal

pub is_true-requires : goal.is_true-requires
is_true-requires c = let p = c.requires in record { ends_of = p.can.ends_of; whole = first-boolean p }

pub returns : goal.returns
returns c = true-rule c.requires c.is_true.ensures c.ensure.ensures
