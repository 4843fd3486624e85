-- The cycle of calls in which commands are run meets its contracts: what comes of a command is what comes of its
-- parts, and a loop goes on as long as one turn after the other is due. The measure is made of the steps left, which never
-- grow and of which a call takes one, and then the words left from the command on, five times, so that the functions for
-- parts of a command come between it and its own parts; a loop's is the steps left.
-- Assumes nothing.
use borrow.Author.Rules.{rules}
use mathlib.Core.Path.{sym, ◌∙◌}
use native.Mathlib.Omega.{arith}
use Rattle.heads.proofs.Parts.{command-early, command-allowed, command-parts}
use Rattle.run.proofs.Steps.{step_less}
use Rattle.run.proofs.Turns.{going_refused, going_over, going_stopped, going_falls, going_on}
use Rattle.run.proofs.Bodies.{sequence-first, sequence-second, if_can, if_then, if-else, for-small}
use Rattle.run.proofs.Bodies.{loop-next, loop-body, loop-counts, call-body}
use Rattle.run.proofs.Bounds.{run-within}
use Rattle.run.proofs.Commands.{passed, turns-passed, pass-passed, skip_runs, while-runs, for-ended, for-stopped}
use Rattle.run.proofs.Commands.{sequence-ended, sequence-stopped, then_runs, else_runs, if_stopped, call-ended}
use Rattle.run.proofs.Commands.{call-stopped, body-stopped, pass_runs}
use Rattle.run.proofs.command.+run_call_run_command_run_for_run_if_run_pass_run_sequence_run_turns.Goals as goal

pub run_call-returns-in_err-take_plain_step : goal.run_call-returns-in_err-take_plain_step
run_call-returns-in_err-take_plain_step t c =
    passed _ c.in_err-take_plain_step.field-0.0 c.from_residual.ensures.1
    (call-stopped c.requires.head c.in_err-take_plain_step.ensures)

pub run_call-run_command-requires : goal.run_call-run_command-requires
run_call-run_command-requires t c =
    let m = c.decreases in let g = step_less c.in_ok-take_plain_step.ensures in
    (omega arith, call-body c.requires c.called_at-body.ensures)

pub run_call-returns : goal.run_call-returns
run_call-returns t c =
    call-ended c.requires.head c.in_ok-take_plain_step.ensures c.called_at-body.ensures c.run_command.ensures

pub run_command-command_head-head-requires : goal.run_command-command_head-head-requires
run_command-command_head-head-requires t c =
    command-allowed c.requires

pub run_command-unreachable-requires : goal.run_command-unreachable-requires
run_command-unreachable-requires t c =
    let p = c.requires in
    command-parts p.tree p.there (sym c.command_head-head.ensures ∙ c.in-Other.is)

pub run_command-returns-in-Skip : goal.run_command-returns-in-Skip
run_command-returns-in-Skip t c =
    skip_runs tt (sym c.command_head-head.ensures ∙ c.in-Skip.is) c.take_step.ensures

pub run_command-returns-in-While : goal.run_command-returns-in-While
run_command-returns-in-While t c =
    while-runs (sym c.command_head-head.ensures ∙ c.in-While.is) c.run_turns.ensures

pub run_for-returns-in_err-scalars : goal.run_for-returns-in_err-scalars
run_for-returns-in_err-scalars t c =
    passed _ c.in_err-scalars.field-0.0 c.from_residual.ensures.1
    (for-stopped c.requires.head c.in_err-scalars.ensures)

pub run_for-bounds-scalars-q : goal.run_for-bounds-scalars-q
run_for-bounds-scalars-q t c =
    let h = (for-small c.requires).0 in omega arith

pub run_for-run_turns-requires : goal.run_for-run_turns-requires
run_for-run_turns-requires t c =
    let m = c.decreases in let g = step_less c.in_ok-scalars.ensures in
    (omega arith, c.requires)

pub run_for-returns : goal.run_for-returns
run_for-returns t c =
    for-ended c.requires.head (search rules) c.in_ok-scalars.ensures c.run_turns.ensures

pub run_if-overflow_add-at : goal.run_if-overflow_add-at
run_if-overflow_add-at t c =
    let h = command-early c.requires.command in omega arith

pub run_if-eval_boolean-requires : goal.run_if-eval_boolean-requires
run_if-eval_boolean-requires t c =
    (if_can c.requires).0

pub run_if-returns-in_err-test : goal.run_if-returns-in_err-test
run_if-returns-in_err-test t c =
    passed _ c.in_err-test.field-0.0 c.from_residual.ensures.1
    (if_stopped c.requires.head c.eval_boolean.ensures c.in_err-test.ensures)

pub run_if-overflow_add-at-2 : goal.run_if-overflow_add-at-2
run_if-overflow_add-at-2 t c =
    let h = command-early c.requires.command in omega arith

pub run_if-end_at-first-requires : goal.run_if-end_at-first-requires
run_if-end_at-first-requires t c =
    let h = (if_can c.requires).1.listed in omega arith

pub run_if-run_command-requires : goal.run_if-run_command-requires
run_if-run_command-requires t c =
    let m = c.decreases in let g = step_less c.in_ok-test.ensures in
    (omega arith, (if_then c.requires c.end_at-first.ensures).stands)

pub run_if-end_at-second-requires : goal.run_if-end_at-second-requires
run_if-end_at-second-requires t c =
    let h = (if_then c.requires c.end_at-first.ensures).place.listed in omega arith

pub run_if-run_command-requires-else-test : goal.run_if-run_command-requires-else-test
run_if-run_command-requires-else-test t c =
    let m = c.decreases in let g = step_less c.in_ok-test.ensures in
    (omega arith, (if-else c.requires c.end_at-first.ensures c.end_at-second.ensures).stands)

pub run_if-returns-then-test : goal.run_if-returns-then-test
run_if-returns-then-test t c =
    then_runs c.requires.head c.eval_boolean.ensures c.in_ok-test.ensures c.if-test.true c.end_at-first.ensures
    c.run_command.ensures

pub run_if-returns-else-test : goal.run_if-returns-else-test
run_if-returns-else-test t c =
    else_runs c.requires.head c.eval_boolean.ensures c.in_ok-test.ensures c.if-test.false c.end_at-first.ensures
    c.end_at-second.ensures c.run_command-else-test.ensures

pub run_pass-body_at-place-requires : goal.run_pass-body_at-place-requires
run_pass-body_at-place-requires t c =
    let h = loop-next c.args.kind c.requires in omega arith

pub run_pass-run_command-requires : goal.run_pass-run_command-requires
run_pass-run_command-requires t c =
    let m = c.decreases in let b = loop-body c.args.kind c.requires c.body_at-place.ensures in
    (omega (arith, b.place.later, b.place.inside), b.stands)

pub run_pass-returns-in_err-run_command : goal.run_pass-returns-in_err-run_command
run_pass-returns-in_err-run_command t c =
    pass-passed _ c.in_err-run_command.field-0.0 c.from_residual.ensures.1
    (body-stopped c.args.kind c.requires.head c.body_at-place.ensures c.in_err-run_command.ensures)

pub run_pass-end_pass-requires : goal.run_pass-end_pass-requires
run_pass-end_pass-requires t c =
    loop-counts c.args.kind c.requires

pub run_pass-returns : goal.run_pass-returns
run_pass-returns t c =
    pass_runs c.args.kind c.requires.head c.body_at-place.ensures c.in_ok-run_command.ensures c.end_pass.ensures

pub run_sequence-overflow_add-at : goal.run_sequence-overflow_add-at
run_sequence-overflow_add-at t c =
    let h = command-early c.requires.command in omega arith

pub run_sequence-run_command-requires : goal.run_sequence-run_command-requires
run_sequence-run_command-requires t c =
    let m = c.decreases in let b = sequence-first c.requires in
    (omega (arith, b.place.later, b.place.inside), b.stands)

pub run_sequence-returns-in_err-run_command : goal.run_sequence-returns-in_err-run_command
run_sequence-returns-in_err-run_command t c =
    passed _ c.in_err-run_command.field-0.0 c.from_residual.ensures.1
    (sequence-stopped c.requires.head c.in_err-run_command.ensures)

pub run_sequence-overflow_add-at-2 : goal.run_sequence-overflow_add-at-2
run_sequence-overflow_add-at-2 t c =
    let h = command-early c.requires.command in omega arith

pub run_sequence-end_at-second-requires : goal.run_sequence-end_at-second-requires
run_sequence-end_at-second-requires t c =
    let h = (sequence-first c.requires).place.listed in omega arith

pub run_sequence-run_command-requires-2 : goal.run_sequence-run_command-requires-2
run_sequence-run_command-requires-2 t c =
    let m = c.decreases in let b = sequence-second c.requires c.end_at-second.ensures in
    let h = run-within (sequence-first c.requires).stands c.in_ok-run_command.ensures in
    (omega (arith, b.place.later, b.place.inside), b.stands)

pub run_sequence-returns : goal.run_sequence-returns
run_sequence-returns t c =
    sequence-ended c.requires.head c.in_ok-run_command.ensures c.end_at-second.ensures c.run_command-2.ensures

pub run_turns-returns-in_err-take_step : goal.run_turns-returns-in_err-take_step
run_turns-returns-in_err-take_step t c =
    turns-passed _ c.in_err-take_step.field-0.0 c.from_residual.ensures.1
    (going_refused c.loop-scalars.invariant c.loop_test.ensures c.in_err-take_step.ensures)

pub run_turns-run_pass-requires : goal.run_turns-run_pass-requires
run_turns-run_pass-requires t c =
    let m = c.decreases in let i = c.loop-scalars.invariant.within in
    let g = step_less c.in_ok-take_step.ensures in (omega arith, c.requires)

pub run_turns-loop-scalars-smaller : goal.run_turns-loop-scalars-smaller
run_turns-loop-scalars-smaller t c =
    going_falls c.loop-scalars.invariant c.loop_test.ensures c.in_ok-take_step.ensures c.requires.command c.if-branch.true
    c.in_ok-run_pass.ensures

pub run_turns-loop-scalars-preserved : goal.run_turns-loop-scalars-preserved
run_turns-loop-scalars-preserved t c =
    going_on c.loop-scalars.invariant c.loop_test.ensures c.in_ok-take_step.ensures c.requires.command c.if-branch.true
    c.in_ok-run_pass.ensures

pub run_turns-returns-in_err-run_pass : goal.run_turns-returns-in_err-run_pass
run_turns-returns-in_err-run_pass t c =
    turns-passed _ c.in_err-run_pass.field-0.0 c.from_residual-in_err-run_pass.ensures.1
    (going_stopped c.loop-scalars.invariant c.loop_test.ensures c.in_ok-take_step.ensures c.if-branch.true c.in_err-run_pass.ensures)

pub run_turns-returns : goal.run_turns-returns
run_turns-returns t c =
    going_over c.loop-scalars.invariant c.loop_test.ensures c.in_ok-take_step.ensures c.if-branch.false
