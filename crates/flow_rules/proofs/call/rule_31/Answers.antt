-- `flow_rules::call::rule_31` meets its contract.
-- Assumes nothing.
use native.Mathlib.Omega.{arith}
use Rattle.std.proofs.lemmas.Result.{err_from_is_err_and}
use Rattle.goals.proofs.Ensured.{ensured, is-equal, exits, exits-unequal}
use Rattle.flow_compound.proofs.Goal.{command-head}
use Rattle.flow_rules.proofs.CallRules.{not_call, can-pre, can-post, other-pre, call-comes}
use Rattle.flow_rules.proofs.call.rule_31.Goals as goal

pub offset_bounds-file-c : goal.offset_bounds-file-c
offset_bounds-file-c c = let i = command-head c.requires.can in omega arith

pub bounds-file-c : goal.bounds-file-c
bounds-file-c c = command-head c.requires.can

pub returns-in_err-ensure : goal.returns-in_err-ensure
returns-in_err-ensure c =
    exits-unequal (err_from_is_err_and _ c.from_residual.ensures.1) c.in_err-ensure.ensures (not_call c.requires)

pub start_of-body-requires : goal.start_of-body-requires
start_of-body-requires c = (c.requires.can.size, command-head c.requires.can)

pub same_written-requires : goal.same_written-requires
same_written-requires c =
    rw (c.end_or_zero-pre.ensures, c.start_of-body.ensures) (can-pre c.requires (is-equal c.in_ok-ensure.ensures))

pub returns-in_err-ensure-2 : goal.returns-in_err-ensure-2
returns-in_err-ensure-2 c =
    exits (err_from_is_err_and _ c.from_residual-in_err-ensure-2.ensures.1) c.in_err-ensure-2.ensures
    (other-pre c.requires (is-equal c.in_ok-ensure.ensures)
    (rw (c.end_or_zero-pre.ensures, c.start_of-body.ensures) at c.same_written.ensures))

pub same_written-requires-2 : goal.same_written-requires-2
same_written-requires-2 c =
    rw (c.end_or_zero-post.ensures, c.end_or_zero-pre.ensures, c.start_of-body.ensures)
    (can-post c.requires (is-equal c.in_ok-ensure.ensures))

pub returns : goal.returns
returns c =
    rw c.ensure-3.ensures
    (call-comes c.requires (is-equal c.in_ok-ensure.ensures)
    (rw (c.end_or_zero-pre.ensures, c.start_of-body.ensures) at c.same_written.ensures)
    (ensured _ c.in_ok-ensure-2.ensures)
    (rw (c.end_or_zero-post.ensures, c.end_or_zero-pre.ensures, c.start_of-body.ensures) at
    c.same_written-2.ensures))
