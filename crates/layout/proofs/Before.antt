-- The context of a program that follows so many procedures of a file has just these procedures, and the limits.
-- Assumes nothing.
--     before-limits     its limits
--     context-before    its procedures, in a file that stands
use mathlib.Core.Path.{◌≡◌, refl}
use mathlib.Core.List.{List, [], ◌∷◌}
use Prim.Native.Nat.{ℕ, zero, suc, ◌≤◌}
use native.Mathlib.Omega.{arith}
use lib.ListN.{length, take}
use Rattle.rules.specs.Context.{Context}
use Rattle.layout.specs.Reading.{Reading, read, fault}
use Rattle.layout.specs.Program.{Program, program, after, after_all}
use Rattle.layout.specs.FileWords.{ProgramsStand}
use Rattle.layout.specs.Before.{onward, context_before}
use Rattle.layout.proofs.WholeFile.{program-stand}

pub before-limits : (Γ : Context) (file : List ℕ) (k at : ℕ) → (context_before Γ file k at).limits ≡ Γ.limits
unfolding context_before
before-limits Γ file zero at = refl
before-limits Γ file (suc k) at = go (program Γ file at) λ f p. before-limits (after Γ f) file k p
  where
    go : (r : Reading Program) → ((f : Program) (p : ℕ) → (context_before (after Γ f) file k p).limits ≡ Γ.limits) →
        (onward Γ r (λ Δ p. context_before Δ file k p)).limits ≡ Γ.limits
    go (read f p) h = h f p
    go (fault n p) h = refl

pub context-before : (Γ : Context) (file : List ℕ) (l : List Program) (f : Program) (at p k : ℕ) → ProgramsStand Γ file l f at p →
    k ≤ length l → context_before Γ file k at ≡ after_all Γ (take k l)
unfolding context_before
context-before Γ file l f at p zero h i = refl
context-before Γ file [] f at p (suc k) h i = absurd (omega arith)
context-before Γ file (g ∷ l) f at p (suc k) (s, h, x) i =
    rw (← s) (rw (program-stand Γ file g h).back (context-before (after Γ g) file l f g.past p k x (omega arith)))
