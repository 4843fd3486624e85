-- Sameness of two halves as a test.
-- Assumes nothing.
--     halves                          two halves together
--     same_halves-sym                  from either side
use mathlib.Core.Path.{◌≡◌, sym, ap₂}
use mathlib.Core.Bool.{◌&&◌}
use mathlib.Core.List.{List}
use Prim.Native.Nat.{ℕ}
use Rattle.laws.proofs.Decides.{decides_same, decides_map}
use Rattle.language.specs.Syntax.{Boolean, Expr}
use Rattle.rules.specs.Tests.{same_antecedent}
use Rattle.rules.proofs.Decides.{same_antecedent-decides}
use Rattle.matching.specs.Matching.{same_numbers}
use Rattle.matching.proofs.SameNumbers.{same_numbers-decides}
use Rattle.sets.specs.Items.{Halves, same_halves}

abbrev pub halves : Expr Boolean → List ℕ → Halves
halves a c = record { left = a; right = c }

antecedent-sym : (φ ψ : Expr Boolean) → same_antecedent φ ψ ≡ same_antecedent ψ φ
antecedent-sym φ ψ =
    decides_same (same_antecedent φ ψ) (same_antecedent ψ φ) (same_antecedent-decides φ ψ)
    (decides_map (λ h. sym h) (λ h. sym h) (same_antecedent-decides ψ φ))

numbers-sym : (k l : List ℕ) → same_numbers k l ≡ same_numbers l k
numbers-sym k l =
    decides_same (same_numbers k l) (same_numbers l k) (same_numbers-decides k l)
    (decides_map (λ h. sym h) (λ h. sym h) (same_numbers-decides l k))

pub same_halves-sym : (x y : Halves) → same_halves x y ≡ same_halves y x
unfolding same_halves
same_halves-sym x y = ap₂ ◌&&◌ (antecedent-sym x.left y.left) (numbers-sym x.right y.right)
