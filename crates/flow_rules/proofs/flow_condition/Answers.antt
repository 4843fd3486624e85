-- `flow_rules::flow_condition` meets its contract: each rule has its own function, and no other rule stands there.
-- Assumes nothing.
use mathlib.Core.Path.{refl}
use native.Mathlib.Omega.{arith}
use Rattle.rule_laws.proofs.Trying.{can-try, last-rule, step-head}
use Rattle.flow_rules.proofs.flow_condition.Goals as goal

pub offset_bounds-file-at : goal.offset_bounds-file-at
offset_bounds-file-at c = omega (arith, step-head c.requires)

pub bounds-file-at : goal.bounds-file-at
bounds-file-at c = step-head c.requires

pub rule_1-requires : goal.rule_1-requires
rule_1-requires c = can-try c.requires c.in-1.is

pub rule_2-requires : goal.rule_2-requires
rule_2-requires c = can-try c.requires c.in-2.is

pub rule_3-requires : goal.rule_3-requires
rule_3-requires c = can-try c.requires c.in-3.is

pub rule_4-requires : goal.rule_4-requires
rule_4-requires c = can-try c.requires c.in-4.is

pub rule_5-requires : goal.rule_5-requires
rule_5-requires c = can-try c.requires c.in-5.is

pub rule_6-requires : goal.rule_6-requires
rule_6-requires c = can-try c.requires c.in-6.is

pub rule_7-requires : goal.rule_7-requires
rule_7-requires c = can-try c.requires c.in-7.is

pub rule_8-requires : goal.rule_8-requires
rule_8-requires c = can-try c.requires c.in-8.is

pub rule_9-requires : goal.rule_9-requires
rule_9-requires c = can-try c.requires c.in-9.is

pub rule_10-requires : goal.rule_10-requires
rule_10-requires c = can-try c.requires c.in-10.is

pub rule_11-requires : goal.rule_11-requires
rule_11-requires c = can-try c.requires c.in-11.is

pub rule_12-requires : goal.rule_12-requires
rule_12-requires c = can-try c.requires c.in-12.is

pub rule_13-requires : goal.rule_13-requires
rule_13-requires c = can-try c.requires c.in-13.is

pub rule_14-requires : goal.rule_14-requires
rule_14-requires c = can-try c.requires c.in-14.is

pub rule_31-requires : goal.rule_31-requires
rule_31-requires c = last-rule c.requires 1 14 31 refl c.in_default.in_default-own.rest
