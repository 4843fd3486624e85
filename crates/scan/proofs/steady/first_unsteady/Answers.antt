-- `scan::steady::first_unsteady` meets its contract: no place that was passed has such a `for`.
-- The measure is the words left. Assumes nothing.
use mathlib.Core.Path.{subst, ◌∙◌}
use native.Mathlib.Omega.{arith}
use Rattle.scan.specs.Steady.{Tested}
use Rattle.scan.proofs.Least.{least}
use Rattle.scan.proofs.Tests.{tested-else, steady-more, steady-past, steady-from, found_here, found_none}
use Rattle.scan.proofs.steady.first_unsteady.Goals as goal

pub loop-at-init : goal.loop-at-init
loop-at-init c =
    let passed = c.next_for-at.ensures in (
      passed.inside (omega (arith, least)),
      steady-past _ _ (omega (arith, least)) passed (steady-from _ _ c.requires (omega (arith, least)) (omega (arith, least))),
    )

pub loop-at-preserved-then-w-at-ne-FOR : goal.loop-at-preserved-then-w-at-ne-FOR
loop-at-preserved-then-w-at-ne-FOR c =
    (omega (arith, least), steady-more _ _ _ (omega (arith, least)) c.loop-at.invariant.1 (tested-else _ _ _ c.if-w-at-ne-FOR.true))

pub returns-then-unsteady_at : goal.returns-then-unsteady_at
returns-then-unsteady_at c =
    found_here _ _ _ (omega (arith, least)) c.loop-at.invariant.1
    (subst (Tested _ _ _) c.if-unsteady_at.true c.unsteady_at.ensures)

pub loop-at-preserved : goal.loop-at-preserved
loop-at-preserved c =
    let passed = c.next_for-at-in-loop-at.ensures in (
      passed.inside (omega (arith, least)),
      steady-past _ _ (omega (arith, least)) passed
          (steady-more _ _ _ (omega (arith, least)) c.loop-at.invariant.1
          (subst (Tested _ _ _) c.if-unsteady_at.false c.unsteady_at.ensures)),
    )

pub returns : goal.returns
returns c =
    found_none _ _ c.requires _ (c.min-end.ensures ∙ least _ _) c.loop-at-test.false c.loop-at.invariant.0
    c.loop-at.invariant.1
