-- `run::step::run_assert` meets its contract. Assumes nothing.
use native.Mathlib.Omega.{arith}
use Rattle.heads.proofs.Parts.{command-early}
use Rattle.run.proofs.Bodies.{assert-can}
use Rattle.run.proofs.Commands.{becomes, passed, chosen, passed-over, assert-runs}
use Rattle.run.proofs.step.run_assert.Goals as goal

pub overflow_add-at : goal.overflow_add-at
overflow_add-at c =
    let h = command-early c.requires.command in omega arith

pub eval_boolean-requires : goal.eval_boolean-requires
eval_boolean-requires c =
    assert-can c.requires

pub returns-in_err-test : goal.returns-in_err-test
returns-in_err-test c =
    passed _ c.in_err-test.field-0.0 c.from_residual.ensures.1
    (assert-runs c.requires.head c.eval_boolean.ensures c.in_err-test.ensures)

pub returns-then-test : goal.returns-then-test
returns-then-test c =
    becomes (chosen _ _ c.if-test.true) (assert-runs c.requires.head c.eval_boolean.ensures c.in_ok-test.ensures)

pub returns : goal.returns
returns c =
    becomes (passed-over _ _ c.if-test.false) (assert-runs c.requires.head c.eval_boolean.ensures c.in_ok-test.ensures)
