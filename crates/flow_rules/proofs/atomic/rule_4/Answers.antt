-- `flow_rules::atomic::rule_4` meets its contract.
-- Assumes nothing.
use native.Mathlib.Omega.{arith}
use Rattle.std.proofs.lemmas.Result.{err_from_is_err_and}
use Rattle.goals.proofs.Ensured.{is-equal, exits-unequal}
use Rattle.flow_compound.proofs.Goal.{command-head}
use Rattle.flow_rules.proofs.AtomicRules.{can-replace_array, not-array, array-comes}
use Rattle.flow_rules.proofs.atomic.rule_4.Goals as goal

pub offset_bounds-file-c : goal.offset_bounds-file-c
offset_bounds-file-c c = let i = command-head c.requires.can in omega arith

pub bounds-file-c : goal.bounds-file-c
bounds-file-c c = command-head c.requires.can

pub returns-in_err-ensure : goal.returns-in_err-ensure
returns-in_err-ensure c =
    exits-unequal (err_from_is_err_and _ c.from_residual.ensures.1) c.in_err-ensure.ensures (not-array c.requires)

pub same_replaced-requires : goal.same_replaced-requires
same_replaced-requires c = rw c.end_or_zero-to.ensures (can-replace_array c.requires.can (is-equal c.in_ok-ensure.ensures))

pub returns : goal.returns
returns c =
    rw c.ensure-2.ensures
    (array-comes c.requires (is-equal c.in_ok-ensure.ensures) (rw c.end_or_zero-to.ensures at c.same_replaced.ensures))
