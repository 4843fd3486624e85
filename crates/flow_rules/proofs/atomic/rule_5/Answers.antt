-- `flow_rules::atomic::rule_5` meets its contract.
-- Assumes nothing.
use native.Mathlib.Omega.{arith}
use Rattle.std.proofs.lemmas.Result.{err_from_is_err_and}
use Rattle.goals.proofs.Ensured.{is-equal, exits-unequal}
use Rattle.flow_compound.proofs.Goal.{command-head}
use Rattle.flow_rules.proofs.AtomicRules.{can-assert, not-assert, assert-comes}
use Rattle.flow_rules.proofs.atomic.rule_5.Goals as goal

pub offset_bounds-file-c : goal.offset_bounds-file-c
offset_bounds-file-c c = let i = command-head c.requires.can in omega arith

pub bounds-file-c : goal.bounds-file-c
bounds-file-c c = command-head c.requires.can

pub returns-in_err-ensure : goal.returns-in_err-ensure
returns-in_err-ensure c =
    exits-unequal (err_from_is_err_and _ c.from_residual.ensures.1) c.in_err-ensure.ensures (not-assert c.requires)

pub same_under-requires : goal.same_under-requires
same_under-requires c = can-assert c.requires.can (is-equal c.in_ok-ensure.ensures)

pub returns : goal.returns
returns c = rw c.ensure-2.ensures (assert-comes c.requires (is-equal c.in_ok-ensure.ensures) c.same_under.ensures)
