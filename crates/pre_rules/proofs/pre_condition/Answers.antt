-- `pre_rules::pre_condition` meets its contract, rule by rule.
-- Assumes nothing.
use mathlib.Core.Path.{refl}
use native.Mathlib.Omega.{arith}
use Rattle.rule_laws.proofs.Trying.{step-head, can-try, last-rule}
use Rattle.pre_rules.proofs.pre_condition.Goals as goal

pub offset_bounds-file-at : goal.offset_bounds-file-at
offset_bounds-file-at c = omega (arith, step-head c.requires)

pub bounds-file-at : goal.bounds-file-at
bounds-file-at c = step-head c.requires

pub rule_20-requires : goal.rule_20-requires
rule_20-requires c = can-try c.requires c.in-20.is

pub rule_21-requires : goal.rule_21-requires
rule_21-requires c = can-try c.requires c.in-21.is

pub rule_22-requires : goal.rule_22-requires
rule_22-requires c = can-try c.requires c.in-22.is

pub rule_23-requires : goal.rule_23-requires
rule_23-requires c = can-try c.requires c.in-23.is

pub rule_24-requires : goal.rule_24-requires
rule_24-requires c = can-try c.requires c.in-24.is

pub rule_25-requires : goal.rule_25-requires
rule_25-requires c = can-try c.requires c.in-25.is

pub rule_26-requires : goal.rule_26-requires
rule_26-requires c = can-try c.requires c.in-26.is

pub rule_27-requires : goal.rule_27-requires
rule_27-requires c = can-try c.requires c.in-27.is

pub rule_28-requires : goal.rule_28-requires
rule_28-requires c = can-try c.requires c.in-28.is

pub rule_29-requires : goal.rule_29-requires
rule_29-requires c = can-try c.requires c.in-29.is

pub rule_30-requires : goal.rule_30-requires
rule_30-requires c = can-try c.requires c.in-30.is

pub rule_32-requires : goal.rule_32-requires
rule_32-requires c = last-rule c.requires 20 11 32 refl c.in_default.in_default-own.rest
