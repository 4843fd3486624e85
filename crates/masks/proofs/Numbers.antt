-- A number by its bits.
-- Assumes nothing.
--     identifier-slot    the identifier of a bit has that bit
--     number-bits        a number of 64 bits is the one of its bits, as a test of identifiers gives them
use mathlib.Core.Path.{◌≡◌, refl, sym, ap, ap₂, ◌∙◌}
use mathlib.Core.Bool.{Bool, cond}
use mathlib.Core.Logic.{inl, inr}
use Prim.Native.Nat.{ℕ, zero, suc, ◌+◌, ◌*◌, ◌/◌, ◌%◌, ◌^◌, ◌<◌}
use native.Mathlib.Omega.{arith}
use native.Mathlib.Nat.{mod-eq_of_lt}
use borrow.Author.Tests.{lt-ltb, le-ltb}
use lib.Dec.{eqb}
use lib.Pow.{mod-pow-add}
use Rattle.language.specs.Modifies.{Identifier}
use Rattle.ends.specs.Mask.{bit, Low, slot}
use Rattle.ends.proofs.Sizes.{lt_or_le}
use Rattle.masks.specs.Masks.{identifier_of, bits_of}

pub record HasSlot (x : Identifier) (i : ℕ) : Type 0 where
  pub low : Low x
  pub at : slot x ≡ i

pub identifier-slot : (i : ℕ) → i < 64 → HasSlot (identifier_of i) i
identifier-slot i h = elim (lt_or_le i 32) [
  | inl l ↦ rw (lt-ltb i 32 l) (record { low = omega arith; at = refl })
  | inr l ↦ rw (le-ltb i 32 l) (record { low = omega arith; at = omega arith })
]

-- a digit below 2
digit : (d p : ℕ) → d < 2 → d * p ≡ cond (eqb d 1) p 0
digit zero p h = omega arith
digit (suc zero) p h = omega arith
digit (suc (suc d)) p h = absurd (omega arith)

half : (n : ℕ) → n % 2 < 2
half n = omega arith

low_bits : (m n : ℕ) → m % 2 ^ n ≡ bits_of (λ i. bit m i) n
unfolding bits_of bit
low_bits m zero = omega arith
low_bits m (suc n) =
    let e : suc n ≡ 1 + n = omega arith in
    ap (λ k. m % 2 ^ k) e ∙ mod-pow-add m 1 n
    ∙ ap₂ (λ a b. a + b) (digit (m / 2 ^ n % 2) (2 ^ n) (half (m / 2 ^ n))) (low_bits m n)
    ∙ go (cond (eqb (m / 2 ^ n % 2) 1) (2 ^ n) 0) (bits_of (λ i. bit m i) n)
  where
    go : (a b : ℕ) → a + b ≡ b + a
    go a b = omega arith

same_bits : (f g : ℕ → Bool) (n : ℕ) → ((i : ℕ) → i < n → f i ≡ g i) → bits_of f n ≡ bits_of g n
unfolding bits_of
same_bits f g zero h = refl
same_bits f g (suc n) h =
    ap₂ (λ a b. a + cond b (2 ^ n) 0) (same_bits f g n (λ i l. h i (omega arith))) (h n (omega arith))

pub number-bits : (m : ℕ) → m < 18446744073709551616 → (f : Identifier → Bool) → ((x : Identifier) → Low x → bit m (slot x) ≡ f x) →
    m ≡ bits_of (λ i. f (identifier_of i)) 64
number-bits m h f k =
    sym (mod-eq_of_lt {n = m} {m = 2 ^ 64} h) ∙ low_bits m 64
    ∙ same_bits (λ i. bit m i) (λ i. f (identifier_of i)) 64 (λ i l.
    let s = identifier-slot i l in ap (bit m) (sym s.at) ∙ k (identifier_of i) s.low)
