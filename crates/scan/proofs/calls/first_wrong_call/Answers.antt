-- `scan::calls::first_wrong_call` meets its contract: no call that was passed is wrong.
-- The measure is the words left. Assumes nothing.
use mathlib.Core.Path.{sym, ap, ◌∙◌}
use native.Mathlib.Omega.{arith}
use Rattle.scan.specs.Fault.{fault_place}
use Rattle.scan.specs.Calls.{wrong_at}
use Rattle.scan.proofs.First.{first-start, first-here, first_next, first-end}
use Rattle.scan.proofs.Passing.{first-passed}
use Rattle.scan.proofs.WrongCalls.{wrong_other}
use Rattle.scan.proofs.calls.first_wrong_call.Goals as goal

pub loop-at-init : goal.loop-at-init
loop-at-init c =
    let passed = c.pass-at.ensures in
    let table = c.args.table.now in
    (passed.inside (omega arith), sym (first-passed _ (wrong_at _ table) (λ i h. sym (wrong_other _ table i h)) (omega arith) passed) ∙ first-start _ _)

pub returns-then-wrong_at : goal.returns-then-wrong_at
returns-then-wrong_at c =
    ap fault_place
    (sym (first-here _ _ _ c.loop-at-test.true (sym c.wrong_at.ensures ∙ c.if-wrong_at.true))
    ∙ c.loop-at.invariant.1)

pub loop-at-preserved : goal.loop-at-preserved
loop-at-preserved c =
    let less = c.loop-at-test.true in
    let table = c.args.table.now in
    let passed = c.pass-at-in-loop-at.ensures in (
      passed.inside (omega arith),
      sym (first-passed _ (wrong_at _ table) (λ i h. sym (wrong_other _ table i h)) (omega arith) passed)
          ∙ sym (first_next _ _ _ less (sym c.wrong_at.ensures ∙ c.if-wrong_at.false)) ∙ c.loop-at.invariant.1,
    )

pub returns : goal.returns
returns c = ap fault_place (sym (first-end _ _ _ c.loop-at-test.false) ∙ c.loop-at.invariant.1)
