-- The bits of a number, and of what and, or, not make of words.
-- Assumes nothing.
--     below                           the order of two numbers
--     bit-and, bit-or, bit-flip       the bits of what and, or, not make
--     bit-low, bit-zero, bit-ones     a bit is 0 or 1; the bits of 0 and of the word of ones
--     some-zero                       a word that is not all ones has a bit that is 0
--     num, numbered-bit               a truth value as a bit
--     word_fits, word-bit             the bits of a formula's word are its values
use mathlib.Core.Path.{◌≡◌, refl, sym, ap, ap₂, ◌∙◌}
use mathlib.Core.Bool.{Bool, true, false, not, ◌&&◌, ◌||◌}
use mathlib.Core.List.{List}
use mathlib.Core.Logic.{◌⊎◌, inl, inr}
use Prim.Native.Nat.{ℕ, zero, suc, ◌+◌, ◌*◌, ◌-◌, ◌/◌, ◌%◌, ◌^◌, ◌<◌, ◌≤◌, min, max}
use native.Mathlib.Omega.{arith}
use borrow.Author.Tests.{eqb-true, eqb-false, ltb-true, ltb-false}
use lib.Bits.{bit_and, bit_or, and_step, or_step, and_lt, or_lt}
use lib.Dec.{eqb, ltb}
use lib.ListN.{get_or}
use Rattle.truth_table.specs.Formula.{Formula, leaf, fixed, conj, disj, negated, value, bit, numbered, fixed_byte}
use Rattle.truth_table.specs.Formula.{Small, word, Block}

pub below : (j k : ℕ) → (j < k) ⊎ (k ≤ j)
below j k = go (ltb j k) refl
  where
    go : (b : Bool) → ltb j k ≡ b → (j < k) ⊎ (k ≤ j)
    go true e = inl (ltb-true j k e)
    go false e = inr (ltb-false j k e)

bit-and : (k a b : ℕ) → bit (bit_and a b) k ≡ min (bit a k) (bit b k)
unfolding bit
bit-and zero a b = omega (arith, and_step a b)
bit-and (suc k) a b = ap (λ (x : ℕ). bit x k) (half a b) ∙ bit-and k (a / 2) (b / 2)
  where
    half : (a b : ℕ) → bit_and a b / 2 ≡ bit_and (a / 2) (b / 2)
    half a b = omega (arith, and_step a b)

bit-or : (k a b : ℕ) → bit (bit_or a b) k ≡ max (bit a k) (bit b k)
unfolding bit
bit-or zero a b = omega (arith, or_step a b)
bit-or (suc k) a b = ap (λ (x : ℕ). bit x k) (half a b) ∙ bit-or k (a / 2) (b / 2)
  where
    half : (a b : ℕ) → bit_or a b / 2 ≡ bit_or (a / 2) (b / 2)
    half a b = omega (arith, or_step a b)

pow-suc : (n : ℕ) → 2 ^ suc n ≡ 2 * 2 ^ n
pow-suc n = omega arith

bit-flip : (n k x : ℕ) → k < n → x < 2 ^ n → bit (2 ^ n - 1 - x) k ≡ 1 - bit x k
unfolding bit
bit-flip zero k x l h = absurd (omega arith)
bit-flip (suc n) zero x l h = omega (arith, pow-suc n)
bit-flip (suc n) (suc k) x l h = ap (λ (z : ℕ). bit z k) (half n x h) ∙ bit-flip n k (x / 2) (omega arith) (low n x h)
  where
    half : (n x : ℕ) → x < 2 ^ suc n → (2 ^ suc n - 1 - x) / 2 ≡ 2 ^ n - 1 - x / 2
    half n x h = omega (arith, pow-suc n)

    low : (n x : ℕ) → x < 2 ^ suc n → x / 2 < 2 ^ n
    low n x h = omega (arith, pow-suc n)

pub bit-low : (k x : ℕ) → bit x k < 2
unfolding bit
bit-low zero x = omega arith
bit-low (suc k) x = bit-low k (x / 2)

pub bit-zero : (k : ℕ) → bit 0 k ≡ 0
unfolding bit
bit-zero zero = refl
bit-zero (suc k) = bit-zero k

pub bit-ones : (k : ℕ) → k < 64 → bit (2 ^ 64 - 1) k ≡ 1
bit-ones k l = bit-flip 64 k 0 l (omega arith) ∙ ap (λ (x : ℕ). 1 - x) (bit-zero k)

-- a number that is not 0 has a bit that is 1
some_one : (n x : ℕ) → x < 2 ^ n → (x ≡ 0 → ⊥) → (j : ℕ) × (j < n) × (bit x j ≡ 1)
unfolding bit
some_one zero x h f = absurd (f (omega arith))
some_one (suc n) x h f = go (eqb (x % 2) 1) refl (λ z. some_one n (x / 2) (omega (arith, pow-suc n)) z)
  where
    go : (b : Bool) → eqb (x % 2) 1 ≡ b → ((x / 2 ≡ 0 → ⊥) → (j : ℕ) × (j < n) × (bit (x / 2) j ≡ 1)) →
        (j : ℕ) × (j < suc n) × (bit x j ≡ 1)
    go true e g = (0, omega arith, eqb-true (x % 2) 1 e)
    go false e g =
        let k = eqb-false (x % 2) 1 e in
        let r = g (λ z. f (omega arith)) in
        (suc r.0, omega (arith, r.1), r.2)

pub some-zero : (x : ℕ) → x < 2 ^ 64 → (x ≡ 2 ^ 64 - 1 → ⊥) → (j : ℕ) × (j < 64) × (bit x j ≡ 0)
some-zero x h f =
    let r = some_one 64 (2 ^ 64 - 1 - x) (omega arith) (λ z. f (omega arith)) in
    let e = bit-flip 64 r.0 x r.1 h in
    (r.0, r.1, omega (arith, r.2))

-- a truth value as a bit
abbrev pub num : Bool → ℕ
num true = 1
num false = 0

pub num-true : (v : Bool) → num v ≡ 1 → v ≡ true
num-true true h = refl
num-true false h = absurd (omega arith)

pub num-false : (v : Bool) → num v ≡ 0 → v ≡ false
num-false true h = absurd (omega arith)
num-false false h = refl

numbered-bit : (k i : ℕ) → num (numbered k i) ≡ bit k i
unfolding numbered
numbered-bit k i = go (eqb (bit k i) 1) refl
  where
    go : (b : Bool) → eqb (bit k i) 1 ≡ b → num b ≡ bit k i
    go true e = sym (eqb-true (bit k i) 1 e)
    go false e = let f = eqb-false (bit k i) 1 e in let l = bit-low i k in omega arith

num-and : (a b : Bool) → min (num a) (num b) ≡ num (a && b)
num-and true true = refl
num-and true false = refl
num-and false true = refl
num-and false false = refl

num-or : (a b : Bool) → max (num a) (num b) ≡ num (a || b)
num-or true true = refl
num-or true false = refl
num-or false true = refl
num-or false false = refl

num-not : (a : Bool) → 1 - num a ≡ num (not a)
num-not true = refl
num-not false = refl

module _ {b : ℕ} {tb : List ℕ} (B : Block b tb) where
  pub word_fits : (f : Formula) → word tb f < 2 ^ 64
  unfolding word
  word_fits (leaf i) = B.fits i
  word_fits (fixed v) = B.fits (fixed_byte v)
  word_fits (conj f g) = and_lt 64 (word tb f) (word tb g) (word_fits f) (word_fits g)
  word_fits (disj f g) = or_lt 64 (word tb f) (word tb g) (word_fits f) (word_fits g)
  word_fits (negated f) = omega arith

  fixed-bit : (v : Bool) (j : ℕ) → j < 64 → bit (get_or tb (fixed_byte v) 0) j ≡ num v
  fixed-bit true j l = ap (λ (x : ℕ). bit x j) B.all ∙ bit-ones j l
  fixed-bit false j l = ap (λ (x : ℕ). bit x j) B.none ∙ bit-zero j

  -- bit j of the word is the value under assignment number 64 × b + j
  pub word-bit : (f : Formula) (j : ℕ) → Small f → j < 64 → bit (word tb f) j ≡ num (value (numbered (64 * b + j)) f)
  unfolding word value Small
  word-bit (leaf i) j s l = B.leaves i j s l ∙ sym (numbered-bit (64 * b + j) i)
  word-bit (fixed v) j s l = fixed-bit v j l
  word-bit (conj f g) j s l =
      bit-and j (word tb f) (word tb g) ∙ ap₂ min (word-bit f j s.0 l) (word-bit g j s.1 l) ∙
      num-and (value (numbered (64 * b + j)) f) (value (numbered (64 * b + j)) g)
  word-bit (disj f g) j s l =
      bit-or j (word tb f) (word tb g) ∙ ap₂ max (word-bit f j s.0 l) (word-bit g j s.1 l) ∙
      num-or (value (numbered (64 * b + j)) f) (value (numbered (64 * b + j)) g)
  word-bit (negated f) j s l =
      bit-flip 64 j (word tb f) l (word_fits f) ∙ ap (λ (x : ℕ). 1 - x) (word-bit f j s l) ∙
      num-not (value (numbered (64 * b + j)) f)
