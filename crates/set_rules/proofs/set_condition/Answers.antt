-- `set_rules::set_condition` meets its contract, rule by rule.
-- Assumes nothing.
use mathlib.Core.Path.{refl}
use native.Mathlib.Omega.{arith}
use Rattle.rule_laws.proofs.Trying.{step-head, last-rule}
use Rattle.set_rules.proofs.set_condition.Goals as goal

pub offset_bounds-file-at : goal.offset_bounds-file-at
offset_bounds-file-at c = omega (arith, step-head c.requires)

pub bounds-file-at : goal.bounds-file-at
bounds-file-at c = step-head c.requires

pub rule_19-requires : goal.rule_19-requires
rule_19-requires c = last-rule c.requires 13 6 19 refl c.in_default.in_default-own.rest
