-- `scan::steady::unsteady_at` meets its contract: the word's payload has q and m, and the mask what the body modifies.
-- Assumes nothing.
use mathlib.Core.Path.{sym, subst, ◌∙◌}
use native.Mathlib.Omega.{arith}
use Rattle.scan.specs.Steady.{Tested}
use Rattle.scan.proofs.Least.{least}
use Rattle.scan.proofs.Tests.{tested-same, tested-first, tested-second}
use Rattle.scan.proofs.steady.unsteady_at.Goals as goal

pub returns-then-q-m : goal.returns-then-q-m
returns-then-q-m c =
    let pre = c.requires in
    tested-same _ _ _ pre.inside pre.is-for c.if-q-m.true

pub returns-then-has_bit : goal.returns-then-has_bit
returns-then-has_bit c =
    let pre = c.requires in
    tested-first _ _ _ pre.listed _ _ (λ h. omega (arith, least)) c.body_mask-body.ensures
    pre.inside pre.is-for c.if-q-m.false (sym c.has_bit.ensures ∙ c.if-has_bit.true)

pub returns : goal.returns
returns c =
    let pre = c.requires in
    subst (Tested _ _ _) (sym c.has_bit-2.ensures)
    (tested-second _ _ _ pre.listed _ _ (λ h. omega (arith, least)) c.body_mask-body.ensures
    pre.inside pre.is-for c.if-q-m.false (sym c.has_bit.ensures ∙ c.if-has_bit.false))
