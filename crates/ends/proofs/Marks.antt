-- The mask of what words assign has the bit of an identifier exactly if one of the words assigns it.
-- Assumes nothing.
--     unwritten, unwritten-below, unwritten-above
--                                           kinds that assign nothing
--     mark-none, mark-scalar, mark-array, mark-for, mark-call
--                                           a mask with what a word assigns, by its kind
--     marks-none, marks-next                the end of the scan that collects a mask; a turn
--     bit-slot                              the mask of one identifier
--     mark-bit, no-bit                      a bit of a mask with what a word assigns; of no mask
--     marks-any                             the law
--     marks-range, marks-empty, marks-join  masks of a range; of no words; of some words and those after them
--     called_same                           the masks of procedures, in two lists
use mathlib.Core.Path.{◌≡◌, refl, sym, ap, ap₂, fun_ext, ◌∙◌}
use mathlib.Core.Bool.{Bool, true, false, ◌||◌, cond, or_assoc, or-false}
use mathlib.Core.List.{List}
use mathlib.Core.Option.{Option, none, some}
use Prim.Native.Nat.{ℕ, zero, suc, ◌+◌, ◌*◌, ◌-◌, ◌%◌, ◌^◌, ◌<◌, ◌≤◌}
use native.Mathlib.Omega.{arith}
use native.Mathlib.Numerals.{add-one}
use native.Mathlib.Nat.{div-eq_of_lt}
use borrow.Author.Tests.{eq-eqb, ne_eqb, eqb-true, eqb-false}
use lib.Bits.{bit_or}
use lib.Dec.{eqb, ltb}
use lib.ListN.{get_or}
use lib.Pow.{pow_pos}
use Rattle.language.specs.Modifies.{Identifier, scalar_of, array_of, same_identifier}
use Rattle.layout.specs.Bytes.{kind_at, payload_at}
use Rattle.ends.specs.Mask.{bit, Low, slot}
use Rattle.ends.specs.Blocks.{table_at, procedure_mask, called_mask, written, if_any, any_in, assigns, with_mark, marks_in, Marks}
use Rattle.ends.proofs.Bits.{bit-or, bit-power}

-- none of the kinds
pub unwritten : (called : ℕ → ℕ) (k p : ℕ) → (k ≡ 27 → ⊥) → (k ≡ 28 → ⊥) → (k ≡ 31 → ⊥) → (k ≡ 38 → ⊥) →
    written called k p ≡ none
unfolding written
unwritten called k p f g h i = rw (ne_eqb k 27 f, ne_eqb k 28 g, ne_eqb k 31 h, ne_eqb k 38 i)

pub unwritten-below : (called : ℕ → ℕ) (k p : ℕ) → k < 27 → written called k p ≡ none
unwritten-below called k p h =
    unwritten called k p (λ e. omega arith) (λ e. omega arith) (λ e. omega arith) (λ e. omega arith)

pub unwritten-above : (called : ℕ → ℕ) (k p : ℕ) → 31 < k → (k ≡ 38 → ⊥) → written called k p ≡ none
unwritten-above called k p h i = unwritten called k p (λ e. omega arith) (λ e. omega arith) (λ e. omega arith) i

-- a mask with what a word assigns, by its kind
module _ (called : ℕ → ℕ) (k p m : ℕ) where
  pub mark-none : written called k p ≡ none → m ≡ with_mark m (written called k p)
  mark-none e = sym (ap (with_mark m) e)

  pub mark-scalar : {r : ℕ} → k ≡ 27 → r ≡ bit_or m (2 ^ (p % 32)) → r ≡ with_mark m (written called k p)
  unfolding written
  mark-scalar e h = h ∙ ap (λ i. with_mark m (written called i p)) (sym e)

  pub mark-array : {r : ℕ} → k ≡ 28 → r ≡ bit_or m (2 ^ (32 + p % 32)) → r ≡ with_mark m (written called k p)
  unfolding written
  mark-array e h = h ∙ ap (λ i. with_mark m (written called i p)) (sym e)

  pub mark-for : {r : ℕ} → k ≡ 31 → r ≡ bit_or m (2 ^ (p % 32)) → r ≡ with_mark m (written called k p)
  unfolding written
  mark-for e h = h ∙ ap (λ i. with_mark m (written called i p)) (sym e)

  pub mark-call : {v : ℕ} → k ≡ 38 → v ≡ called p → bit_or m v ≡ with_mark m (written called k p)
  unfolding written
  mark-call e h = ap (bit_or m) h ∙ ap (λ i. with_mark m (written called i p)) (sym e)

one_less : (at to : ℕ) → at < to → to - at ≡ suc (to - (at + 1))
one_less at to h = omega arith

module _ (called : ℕ → ℕ) (file : List ℕ) (at to m : ℕ) where
  pub marks-none : to ≤ at → marks_in called file (to - at) at m ≡ m
  unfolding marks_in
  marks-none h = let e : to - at ≡ 0 = omega arith in rw e

  pub marks-next : at < to →
      marks_in called file (to - at) at m
      ≡ marks_in called file (to - (at + 1)) (at + 1) (with_mark m (written called (kind_at file at) (payload_at file at)))
  unfolding marks_in
  marks-next h = rw (one_less at to h, add-one at)

past-scalars : (a b : ℕ) → eqb (32 + a) (32 + b) ≡ eqb a b
past-scalars a b = go (eqb a b) refl
  where
    go : (t : Bool) → eqb a b ≡ t → eqb (32 + a) (32 + b) ≡ t
    go true e = eq-eqb (32 + a) (32 + b) (ap (λ n. 32 + n) (eqb-true a b e))
    go false e = ne_eqb (32 + a) (32 + b) (λ h. eqb-false a b e (omega arith))

slot_same : (y x : Identifier) → Low y → Low x → eqb (slot y) (slot x) ≡ same_identifier y x
slot_same (scalar_of y) (scalar_of x) h k = refl
slot_same (scalar_of y) (array_of x) h k = ne_eqb y (32 + x) (λ e. omega arith)
slot_same (array_of y) (scalar_of x) h k = ne_eqb (32 + y) x (λ e. omega arith)
slot_same (array_of y) (array_of x) h k = past-scalars y x

-- the mask of one identifier
pub bit-slot : (y x : Identifier) → Low y → Low x → bit (2 ^ slot y) (slot x) ≡ same_identifier y x
bit-slot y x h k = bit-power (slot y) (slot x) ∙ slot_same y x h k

pub mark-bit : (o : Option ℕ) (m i : ℕ) → bit (with_mark m o) i ≡ (bit m i || if_any (λ n. bit n i) o)
mark-bit none m i = sym (or-false (bit m i))
mark-bit (some n) m i = bit-or m n i

pub marks-any : (called : ℕ → ℕ) (file : List ℕ) (x : Identifier) (n at m : ℕ) →
    bit (marks_in called file n at m) (slot x) ≡ (bit m (slot x) || any_in (assigns called x) file n at)
unfolding marks_in any_in
marks-any called file x zero at m = sym (or-false (bit m (slot x)))
marks-any called file x (suc n) at m =
    let o = written called (kind_at file at) (payload_at file at) in
    marks-any called file x n (suc at) (with_mark m o)
    ∙ ap (λ b. b || any_in (assigns called x) file n (suc at)) (mark-bit o m (slot x))
    ∙ or_assoc (bit m (slot x)) (assigns called x (kind_at file at) (payload_at file at))
    (any_in (assigns called x) file n (suc at))

pub no-bit : (i : ℕ) → bit 0 i ≡ false
unfolding bit
no-bit i = rw (div-eq_of_lt (pow_pos i)) refl

pub any_append : (t : ℕ → ℕ → Bool) (file : List ℕ) (p q at : ℕ) →
    any_in t file (p + q) at ≡ (any_in t file p at || any_in t file q (at + p))
unfolding any_in
any_append t file zero q at =
    let e : zero + q ≡ q = omega arith in
    let f : at ≡ at + zero = omega arith in
    ap₂ (any_in t file) e f
any_append t file (suc p) q at =
    let e : suc p + q ≡ suc (p + q) = omega arith in
    let f : suc at + p ≡ at + suc p = omega arith in
    ap (λ n. any_in t file n at) e
    ∙ ap (λ b. t (kind_at file at) (payload_at file at) || b)
    (any_append t file p q (suc at) ∙ ap (λ i. any_in t file p (suc at) || any_in t file q i) f)
    ∙ sym (or_assoc (t (kind_at file at) (payload_at file at)) (any_in t file p (suc at)) (any_in t file q (at + suc p)))

module _ {called : ℕ → ℕ} (file : List ℕ) where
  pub marks-range : {n at mask : ℕ} → mask ≡ marks_in called file n at 0 → Marks called file n at mask
  marks-range {n} {at} e = record {
    marks = λ x.
        ap (λ m. bit m (slot x)) e ∙ marks-any called file x n at 0
        ∙ ap (λ b. b || any_in (assigns called x) file n at) (no-bit (slot x));
  }

  pub marks-empty : (at : ℕ) → Marks called file 0 at 0
  unfolding any_in
  marks-empty at = record { marks = λ x. no-bit (slot x) }

  pub marks-join : {p q at a b : ℕ} → Marks called file p at a → Marks called file q (at + p) b →
      Marks called file (p + q) at (bit_or a b)
  marks-join {p} {q} {at} {a} {b} m n = record {
    marks = λ x.
        bit-or a b (slot x) ∙ ap₂ (λ s t. s || t) (m.marks x) (n.marks x)
        ∙ sym (any_append (assigns called x) file p q at);
  }

-- the masks of procedures, in two lists that agree behind the masks of blocks
pub called_same : (file l m : List ℕ) → ((at : ℕ) → table_at file ≤ at → get_or l at 0 ≡ get_or m at 0) →
    called_mask file l ≡ called_mask file m
unfolding procedure_mask
called_same file l m h = fun_ext λ p.
    ap₂ (λ a b. cond (ltb p 16) (a + 4294967296 * b) 0) (h (table_at file + 17 + 2 * p) (omega arith))
    (h (table_at file + 17 + 2 * p + 1) (omega arith))
