-- A constant is read by the two cases of request [4] of document 02, and so in two's complement.
-- Assumes nothing.
--     by_cases    the claim
use mathlib.Core.Path.{◌≡◌, refl, ◌∙◌, ap, ap₂}
use mathlib.Core.Bool.{Bool, true, false}
use Prim.Native.Nat.{ℕ, ◌+◌, ◌*◌, ◌/◌, ◌%◌, ◌<◌, ◌≤◌}
use native.Mathlib.Omega.{arith}
use borrow.Author.Tests.{ltb-true, ltb-false, lt-ltb}
use lib.Dec.{ltb}
use lib.IntN.{ℤ, pos, negsuc, ◌-ℤ◌}
use Rattle.language.specs.Syntax.{constant}
use Rattle.layout.specs.Bytes.{number_at}
use Rattle.layout.specs.Constant.{constant_of}
use Rattle.layout.specs.Reading.{read}
use Rattle.layout.specs.Read.{expression}
use Rattle.layout.proofs.Constant.{constant-itself, constant-less}
use Rattle.layout.proofs.Words.{quotient, remainder}
use Rattle.layout.proofs.Back.{due-back}
use Rattle.claims.specs.ByCases.{ReadAs, twos_complement, ByCases}

-- the word 1:p is read as the integer of its payload
read_as : (p : ℕ) (z : ℤ) → p ≤ 67108863 → constant_of p ≡ z → ReadAs p z
unfolding expression
read_as p z h e file at d i w =
    let small : p < 67108864 = omega arith in
    (due-back file at 1 p _ i (quotient 1 p (number_at file at) w small) (remainder 1 p (number_at file at) w small)
    (record { allows = ap (λ y. read (constant y) (at + 1)) e })).back

-- the highest bit is 0 in the first case, and 1 in the second
as_bits : (p : ℕ) → p ≤ 67108863 → constant_of p ≡ twos_complement p
as_bits p h = go (ltb p 33554432) refl
  where
    difference : ℕ → ℕ → ℤ
    difference a b = pos a -ℤ pos b

    second : (q : ℕ) → q < 33554432 → difference (33554432 + q) 67108864 ≡ difference q 33554432
    second q k = simp (lt-ltb (33554432 + q) 67108864 (omega arith), lt-ltb q 33554432 k) (ap negsuc (omega arith))

    go : (b : Bool) → ltb p 33554432 ≡ b → constant_of p ≡ twos_complement p
    go true e =
        let l = ltb-true p 33554432 e in
        let low : p ≡ p % 33554432 = omega arith in
        let highest : 0 ≡ p / 33554432 * 33554432 = omega arith in
        let sum : p ≡ p + 0 = omega arith in
        constant-itself p l ∙ ap pos sum ∙ ap₂ difference low highest
    go false e =
        let l = ltb-false p 33554432 e in
        let low : p ≡ 33554432 + p % 33554432 = omega arith in
        let highest : 33554432 ≡ p / 33554432 * 33554432 = omega arith in
        constant-less p l ∙ ap (λ n. difference n 67108864) low ∙ second (p % 33554432) (omega arith)
        ∙ ap (difference (p % 33554432)) highest

pub by_cases : ByCases
by_cases = record {
  below = λ p h. read_as p (pos p) (omega arith) (constant-itself p (omega arith));
  otherwise = λ p h k. read_as p (pos p -ℤ pos 67108864) k (constant-less p (omega arith));
  as_twos_complement = λ p h. read_as p (twos_complement p) h (as_bits p h);
}
