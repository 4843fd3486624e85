-- Signed 64-bit integers as the code holds them, and results that are checked.
-- Assumes nothing.
--     back, held_two      what a signed local holds is what was put there
--     checked-as          a result in range, or refusal 14
use mathlib.Core.Path.{◌≡◌, ap, ◌∙◌}
use mathlib.Core.Bool.{true, false}
use Prim.Native.Nat.{◌^◌, ◌<◌, ◌≤◌}
use native.Mathlib.Omega.{arith}
use lib.IntN.{ℤ, pos, negsuc}
use lib.Signed.{mag}
use mir.Syntax.{w64}
use mir.Val.{SFits, to_z, of_z}
use mir.Facts.{to_z-of_z}
use borrow.Author.Tests.{le-leb, lt-leb}
use Rattle.std.specs.Prelude.{Option, Some, None, SomeIff}
use Rattle.std.specs.Option.{ok_or}
use Rattle.execution.specs.Evaluate.{worked, in_range}
use Rattle.arithmetic.specs.Worked.{outcome, checked}
use Rattle.arithmetic.specs.declared.Stop.TheVariants.{OutOfRange}

-- what a signed local holds is what was put there
pub back : {z : ℤ} → SFits w64 z → to_z w64 (of_z w64 z) ≡ z
back f = to_z-of_z f

-- of two numbers that locals hold
pub held_two : {A : Type 0} (f : ℤ → ℤ → A) {a b : ℤ} → SFits w64 a → SFits w64 b →
    f (to_z w64 (of_z w64 a)) (to_z w64 (of_z w64 b)) ≡ f a b
held_two f g h = rw (back g, back h)

in-range : (z : ℤ) → mag z < 2 ^ 63 → in_range z ≡ true
in-range (pos n) h = le-leb n 9223372036854775807 (omega arith)
in-range (negsuc n) h = rw (le-leb n 9223372036854775807 (omega arith))

not-in_range : (z : ℤ) → 2 ^ 63 ≤ mag z → in_range z ≡ false
not-in_range (pos n) h = lt-leb n 9223372036854775807 (omega arith)
not-in_range (negsuc n) h = rw (lt-leb n 9223372036854775807 (omega arith))

-- what the library's checked method gives
pub checked-as : (o : Option ℤ) (z : ℤ) → SomeIff o (SFits w64 z) z → outcome (ok_or o OutOfRange) ≡ checked z
unfolding checked
checked-as (Some x) z f = ap worked f.1 ∙ rw (in-range z f.0.sfits)
checked-as None z f =
    let n : mag z < 2 ^ 63 → ⊥ = λ h. f (record { sfits = h }) in
    rw (not-in_range z (omega arith))
