-- Bits of numbers.
-- Assumes nothing.
--     bit-or, bit-power, bit-ones    of a disjunction, of a power of 2, of the largest number of 64 bits
use mathlib.Core.Path.{◌≡◌, refl, sym, ap, ◌∙◌}
use mathlib.Core.Bool.{true, false, ◌||◌}
use mathlib.Core.Logic.{inl, inr}
use Prim.Native.Nat.{ℕ, zero, suc, ◌+◌, ◌-◌, ◌*◌, ◌/◌, ◌%◌, ◌^◌, ◌<◌, max}
use native.Mathlib.Omega.{arith}
use native.Mathlib.Nat.{eq-or-lt_of_le, div-eq_of_lt, mul-mod_left, mul_comm, one-mul, pow-suc}
use borrow.Author.Tests.{eq-eqb, ne_eqb}
use lib.Bits.{bit_or, or_shr, or_step}
use lib.Dec.{eqb}
use lib.Pow.{pow_pos, pow-lt, pow-add, shl-shr, high, ones_lt, ones_split}
use Rattle.ends.proofs.Sizes.{lt_or_le}
use Rattle.ends.specs.Mask.{bit}

-- of two numbers below 2
either : (a b : ℕ) → a < 2 → b < 2 → eqb (max a b) 1 ≡ (eqb a 1 || eqb b 1)
either zero zero h k = refl
either zero (suc zero) h k = refl
either zero (suc (suc b)) h k = absurd (omega arith)
either (suc zero) zero h k = refl
either (suc zero) (suc zero) h k = refl
either (suc zero) (suc (suc b)) h k = absurd (omega arith)
either (suc (suc a)) b h k = absurd (omega arith)

half : (n : ℕ) → n % 2 < 2
half n = omega arith

last-digit : (n d : ℕ) → d < 2 → (n * 2 + d) % 2 ≡ d
last-digit n d h = omega arith

most : (a b : ℕ) → a < 2 → b < 2 → max a b < 2
most a b h k = omega arith

pub bit-or : (a b i : ℕ) → bit (bit_or a b) i ≡ (bit a i || bit b i)
unfolding bit
bit-or a b i =
    ap (λ n. eqb (n % 2) 1) (or_shr a b i ∙ or_step (a / 2 ^ i) (b / 2 ^ i))
    ∙ ap (λ n. eqb n 1)
    (last-digit _ (max (a / 2 ^ i % 2) (b / 2 ^ i % 2)) (most _ _ (half (a / 2 ^ i)) (half (b / 2 ^ i))))
    ∙ either (a / 2 ^ i % 2) (b / 2 ^ i % 2) (half (a / 2 ^ i)) (half (b / 2 ^ i))

-- by the order of the two
below : (i j : ℕ) → i < j → bit (2 ^ i) j ≡ false
unfolding bit
below i j h = rw (div-eq_of_lt (pow-lt h)) refl

equal : (i : ℕ) → bit (2 ^ i) i ≡ true
unfolding bit
equal i = ap (λ n. eqb (n % 2) 1) (ap (λ n. n / 2 ^ i) (sym (one-mul (2 ^ i))) ∙ shl-shr 1 i)

above : (i j : ℕ) → j < i → bit (2 ^ i) j ≡ false
unfolding bit
above i j h =
    let e : suc (i - j - 1) + j ≡ i = omega arith in
    ap (λ n. eqb (n % 2) 1)
    (ap (λ n. 2 ^ n / 2 ^ j) (sym e) ∙ ap (λ n. n / 2 ^ j) (pow-add 2 (suc (i - j - 1)) j)
    ∙ shl-shr (2 ^ suc (i - j - 1)) j)
    ∙ ap (λ n. eqb n 1) (ap (λ n. n % 2) (pow-suc 2 (i - j - 1)) ∙ mul-mod_left (2 ^ (i - j - 1)) 2)

pub bit-power : (i j : ℕ) → bit (2 ^ i) j ≡ eqb i j
bit-power i j = elim (lt_or_le i j) [
  | inl h ↦ below i j h ∙ sym (ne_eqb i j (λ e. omega arith))
  | inr h ↦ elim (eq-or-lt_of_le h) [
    | inl e ↦ ap (λ k. bit (2 ^ k) j) (sym e) ∙ equal j ∙ sym (eq-eqb i j (sym e))
    | inr l ↦ above i j l ∙ sym (ne_eqb i j (λ e. omega arith))
  ]
]

odd : (n : ℕ) → 0 < n → (2 * n - 1) % 2 ≡ 1
odd n h = omega arith

pub bit-ones : (i : ℕ) → i < 64 → bit 18446744073709551615 i ≡ true
unfolding bit
bit-ones i h =
    let e : suc (63 - i) + i ≡ 64 = omega arith in
    ap (λ n. eqb (n % 2) 1)
    (ap (λ n. (2 ^ n - 1) / 2 ^ i) (sym e) ∙ ap (λ n. n / 2 ^ i) (ones_split (suc (63 - i)) i)
    ∙ high (2 ^ suc (63 - i) - 1) i (ones_lt i))
    ∙ ap (λ n. eqb n 1)
    (ap (λ n. (n - 1) % 2) (pow-suc 2 (63 - i) ∙ mul_comm (2 ^ (63 - i)) 2)
    ∙ odd (2 ^ (63 - i)) (pow_pos (63 - i)))
