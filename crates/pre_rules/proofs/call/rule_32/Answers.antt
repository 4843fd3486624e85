-- `pre_rules::call::rule_32` meets its contract.
-- Assumes nothing.
use native.Mathlib.Omega.{arith}
use Rattle.goals.proofs.Ensured.{by-test}
use Rattle.pre_compound.proofs.Goal.{command-head}
use Rattle.pre_rules.proofs.Calls.{call-fails, call-rule}
use Rattle.pre_rules.proofs.call.rule_32.Goals as goal

pub offset_bounds-file-c : goal.offset_bounds-file-c
offset_bounds-file-c c = let i = command-head c.requires in omega arith

pub bounds-file-c : goal.bounds-file-c
bounds-file-c c = command-head c.requires

pub returns : goal.returns
returns c = by-test c.ensure.ensures (call-fails c.requires) (call-rule c.requires)
