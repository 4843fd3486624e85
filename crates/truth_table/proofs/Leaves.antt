-- The words of the leaves in a block of 64 assignments. The first six are the same in every block, and are computed;
-- each later one is 64 times a bit of the block's number.
-- Assumes nothing.
--     start                                      the words before the block's number is looked at
--     LeavesFilled, filled_start, filled_more    the words below leaf i are those of the block
--     filled_block, filled_lane                  all are; one row more
use mathlib.Core.Path.{◌≡◌, refl, sym, ap, ap₂, ◌∙◌}
use mathlib.Core.Bool.{Bool, true, ◌&&◌}
use mathlib.Core.List.{List, [], ◌∷◌}
use mathlib.Core.Logic.{⊎_elim}
use Prim.Native.Nat.{ℕ, zero, suc, ◌+◌, ◌*◌, ◌-◌, ◌/◌, ◌%◌, ◌^◌, ◌<◌, ◌≤◌}
use native.Mathlib.Nat.{eq-or-lt_of_le}
use native.Mathlib.Omega.{arith}
use borrow.Author.Tests.{eqb-true, ltb-true}
use lib.Dec.{eqb, ltb}
use lib.ListN.{length, get_or, set, length-set}
use lib.Seq.{get_or-set_same, get_or-set_other}
use Rattle.laws.proofs.Bools.{and_left, and_right}
use Rattle.truth_table.specs.Formula.{bit, lane, Block, spread_of}
use Rattle.truth_table.proofs.Lanes.{lane-set}
use Rattle.truth_table.proofs.Bits.{below, bit-low, bit-zero, bit-ones}

abbrev start : List ℕ
start =
    12297829382473034410 ∷ 14757395258967641292 ∷ 17361641481138401520 ∷ 18374966859414961920 ∷ 18446462603027742720 ∷
    18446744069414584320 ∷ 0 ∷ 0 ∷ 0 ∷ 0 ∷ 0 ∷ 0 ∷ 0 ∷ 0 ∷ 0 ∷ 0 ∷ 0 ∷ 18446744073709551615 ∷ []

-- the bits below c of the word of leaf i are right
row : ℕ → ℕ → Bool
row i zero = true
row i (suc c) = eqb (bit (get_or start i 0) c) (bit c i) && row i c

row-says : (i c : ℕ) → row i c ≡ true → (j : ℕ) → j < c → bit (get_or start i 0) j ≡ bit j i
unfolding row
row-says i zero h j l = absurd (omega arith)
row-says i (suc c) h j l =
    ⊎_elim
    (λ (e : j ≡ c). ap (λ (x : ℕ). bit (get_or start i 0) x) e ∙
    eqb-true _ _ (and_left (eqb (bit (get_or start i 0) c) (bit c i)) (row i c) h) ∙ ap (λ (x : ℕ). bit x i) (sym e))
    (λ (e : j < c). row-says i c (and_right (eqb (bit (get_or start i 0) c) (bit c i)) (row i c) h) j e)
    (eq-or-lt_of_le (le j c l))
  where
    le : (j c : ℕ) → j < suc c → j ≤ c
    le j c l = omega arith

six : (i : ℕ) → i < 6 → row i 64 ≡ true
unfolding row bit
six zero l = refl
six (suc zero) l = refl
six (suc (suc zero)) l = refl
six (suc (suc (suc zero))) l = refl
six (suc (suc (suc (suc zero)))) l = refl
six (suc (suc (suc (suc (suc zero))))) l = refl
six (suc (suc (suc (suc (suc (suc i)))))) l = absurd (omega arith)

low_bits : (b j i : ℕ) → i < 6 → bit j i ≡ bit (64 * b + j) i
unfolding bit
low_bits b j zero l = omega arith
low_bits b j (suc zero) l = omega arith
low_bits b j (suc (suc zero)) l = omega arith
low_bits b j (suc (suc (suc zero))) l = omega arith
low_bits b j (suc (suc (suc (suc zero)))) l = omega arith
low_bits b j (suc (suc (suc (suc (suc zero))))) l = omega arith
low_bits b j (suc (suc (suc (suc (suc (suc i)))))) l = absurd (omega arith)

first-six : (b i j : ℕ) → i < 6 → j < 64 → bit (get_or start i 0) j ≡ bit (64 * b + j) i
first-six b i j l h = row-says i 64 (six i l) j h ∙ low_bits b j i l

later : (b j i : ℕ) → 6 ≤ i → j < 64 → bit (64 * b + j) i ≡ bit b (i - 6)
unfolding bit
later b j zero h l = absurd (omega arith)
later b j (suc zero) h l = absurd (omega arith)
later b j (suc (suc zero)) h l = absurd (omega arith)
later b j (suc (suc (suc zero))) h l = absurd (omega arith)
later b j (suc (suc (suc (suc zero)))) h l = absurd (omega arith)
later b j (suc (suc (suc (suc (suc zero))))) h l = absurd (omega arith)
later b j (suc (suc (suc (suc (suc (suc m)))))) h l = ap₂ (λ (x : ℕ) (k : ℕ). bit x k) (quot b j l) (less m)
  where
    quot : (b j : ℕ) → j < 64 → (64 * b + j) / 2 / 2 / 2 / 2 / 2 / 2 ≡ b
    quot b j l = omega arith

    less : (m : ℕ) → m ≡ suc (suc (suc (suc (suc (suc m))))) - 6
    less m = omega arith

spread_bit : (v j : ℕ) → v < 2 → j < 64 → bit (spread_of v) j ≡ v
spread_bit zero j h l = bit-zero j
spread_bit (suc zero) j h l = bit-ones j l
spread_bit (suc (suc v)) j h l = absurd (omega arith)

spread_fits : (v : ℕ) → spread_of v < 2 ^ 64
spread_fits zero = omega arith
spread_fits (suc v) = omega arith

fits-list : List ℕ → Bool
fits-list [] = true
fits-list (x ∷ l) = ltb x (2 ^ 64) && fits-list l

fits_each : (l : List ℕ) → fits-list l ≡ true → (k : ℕ) → get_or l k 0 < 2 ^ 64
unfolding fits-list
fits_each [] h k = omega arith
fits_each (x ∷ l) h zero = ltb-true x (2 ^ 64) (and_left (ltb x (2 ^ 64)) (fits-list l) h)
fits_each (x ∷ l) h (suc k) = fits_each l (and_right (ltb x (2 ^ 64)) (fits-list l) h) k

-- the words of the leaves below i are those of block b, and the bits of rest are those of b from leaf i on
pub record LeavesFilled (b : ℕ) (t : List ℕ) (rest i : ℕ) : Type 0 where
  size : length t ≡ 18
  ahead : (m : ℕ) → bit rest m ≡ bit b (i - 6 + m)
  done : (k : ℕ) → 6 ≤ k → k < i → get_or t k 0 ≡ spread_of (bit b (k - 6))
  first : (k : ℕ) → k < 6 → get_or t k 0 ≡ get_or start k 0
  last : (k : ℕ) → 16 ≤ k → get_or t k 0 ≡ get_or start k 0

pub filled_start : (b rest : ℕ) → rest ≡ b → LeavesFilled b start rest 6
filled_start b rest e = record {
  size = refl;
  ahead = λ m. ap₂ bit e (same m);
  done = λ k l h. absurd (omega arith);
  first = λ k l. refl;
  last = λ k l. refl;
}
  where
    same : (m : ℕ) → m ≡ 6 - 6 + m
    same m = omega arith

pub filled_more : {b : ℕ} {t : List ℕ} {rest i v : ℕ} → 6 ≤ i → i < 16 → LeavesFilled b t rest i →
    v ≡ spread_of (rest % 2) → LeavesFilled b (set t i v) (rest / 2) (i + 1)
unfolding bit
filled_more {b} {t} {rest} {i} {v} l h F e = record {
  size = length-set t i v ∙ F.size;
  ahead = λ m. F.ahead (suc m) ∙ ap (bit b) (on m);
  done = λ k m n.
      ⊎_elim
      (λ (q : k ≡ i). ap (λ (z : ℕ). get_or (set t i v) z 0) q ∙
      get_or-set_same t i v 0 (let s = F.size in omega arith) ∙ e ∙ ap spread_of (F.ahead 0 ∙ ap (bit b) (at k q)))
      (λ (q : k < i). get_or-set_other t i k v 0 (λ z. omega arith) ∙ F.done k m q)
      (eq-or-lt_of_le (le k n));
  first = λ k m. get_or-set_other t i k v 0 (λ z. omega arith) ∙ F.first k m;
  last = λ k m. get_or-set_other t i k v 0 (λ z. omega arith) ∙ F.last k m;
}
  where
    on : (m : ℕ) → i - 6 + suc m ≡ i + 1 - 6 + m
    on m = omega arith

    at : (k : ℕ) → k ≡ i → i - 6 + 0 ≡ k - 6
    at k q = omega arith

    le : (k : ℕ) → k < i + 1 → k ≤ i
    le k n = omega arith

pub filled_block : {b : ℕ} {t : List ℕ} {rest i : ℕ} → 16 ≤ i → LeavesFilled b t rest i → Block b t
unfolding fits-list
filled_block {b} {t} {rest} {i} h F = record {
  leaves = λ k j l m.
      ⊎_elim
      (λ (q : k < 6). ap (λ (x : ℕ). bit x j) (F.first k q) ∙ first-six b k j q m)
      (λ (q : 6 ≤ k). ap (λ (x : ℕ). bit x j) (F.done k q (omega arith)) ∙
      spread_bit (bit b (k - 6)) j (bit-low (k - 6) b) m ∙ sym (later b j k q m))
      (below k 6);
  none = F.last 16 (omega arith);
  all = F.last 17 (omega arith);
  fits = λ k.
      ⊎_elim
      (λ (q : k < 6). rw (F.first k q) (fits_each start refl k))
      (λ (q : 6 ≤ k).
      ⊎_elim
      (λ (p : k < 16). rw (F.done k q (omega arith)) (spread_fits (bit b (k - 6))))
      (λ (p : 16 ≤ k). rw (F.last k p) (fits_each start refl k))
      (below k 16))
      (below k 6);
}

-- one row more, in one lane
pub filled_lane : (j : ℕ) (t : List (List ℕ)) (row : List ℕ) {b rest i : ℕ} → 6 ≤ i → i < 16 →
    LeavesFilled b (lane j t) rest i → get_or row j 0 ≡ spread_of (rest % 2) →
    LeavesFilled b (lane j (set t i row)) (rest / 2) (i + 1)
filled_lane j t row {i = i} l h F e = rw (lane-set j t i row) (filled_more l h F e)
