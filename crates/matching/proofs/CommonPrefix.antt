-- How many numbers are the same in two lists, from the start on.
-- Assumes nothing.
--     Skipped, blocks-skipped     whole blocks that are the same in both
--     common-cut                  of two lists cut to the length of the shorter
--     same-ranges, no-ranges, other-ranges
--                                 two ranges of a file: as many as one has, if they are the same; both empty; not of one length
--     range-missing, range-whole, range-inside
--                                 a range asked for from a place on: as many stand there, up to the missing one or to the range's end,
--                                 and within the file
use mathlib.Core.Path.{◌≡◌, refl, sym, ap, ap₂, ◌∙◌}
use mathlib.Core.Bool.{Bool, true, false, cond, ◌&&◌}
use mathlib.Core.List.{List, [], ◌∷◌, ◌++◌}
use mathlib.Core.Logic.{inl, inr}
use Prim.Native.Nat.{ℕ, zero, suc, ◌+◌, ◌-◌, ◌*◌, ◌/◌, ◌<◌, ◌≤◌, min}
use native.Mathlib.Numerals.{add-one}
use native.Mathlib.Omega.{arith}
use borrow.Author.Tests.{eqb-true, eqb-false, eq-eqb, ne_eqb, lt-ltb, le-ltb}
use lib.Dec.{eqb, ltb}
use lib.ListN.{length, get_or, take, drop, length-take, length-drop, drop_of_length-le}
use lib.Seq.{drop-cons, take_all}
use Rattle.std.specs.Prelude.{Ok, Err}
use Rattle.std.specs.List.{prefix_len, common_prefix_len, zip}
use Rattle.std.specs.Simd.{first_chunks}
use Rattle.std.specs.Cmp.Lexicographic.{pointwise}
use Rattle.std.proofs.lemmas.List.{take-append-drop, drop-drop}
use Rattle.std.proofs.lemmas.List.Sums.{common_prefix_len-le}
use Rattle.std.proofs.lemmas.Slice.Eq.{slice_eq-Decides}
use Rattle.std.proofs.lemmas.Bool.Decides.{Decides-eqb}
use Rattle.laws.proofs.Decides.{decides_same, decides_map, eqb-decides}
use Rattle.ends.proofs.Sizes.{lt_or_le}
use Rattle.matching.specs.Matching.{between, matched, same_numbers}
use Rattle.matching.proofs.Ranges.{between_none, between_range, between-length}
use Rattle.matching.proofs.SameNumbers.{decides_false, same_numbers-decides}
use Rattle.matching.proofs.Matching.{word_out, word-here, word-other, matched-lost}

common-append : (c k l : List ℕ) → common_prefix_len eqb (c ++ k) (c ++ l) ≡ length c + common_prefix_len eqb k l
common-append [] k l = omega arith
common-append (x ∷ c) k l = let ih = common-append c k l in rw (eq-eqb x x refl) (omega (arith, ih))

-- a block of four that `==` finds the same, and what follows it
common-block : (a b : List ℕ) → 4 ≤ length a → pointwise eqb (take 4 a) (take 4 b) ≡ true →
    4 + common_prefix_len eqb (drop 4 a) (drop 4 b) ≡ common_prefix_len eqb a b
common-block a b h e =
    let s = take 4 a in
    let long : length s ≡ 4 = grind (arith, length-take) in
    let u : a ≡ s ++ drop 4 a = sym (take-append-drop 4 a) in
    let v : b ≡ s ++ drop 4 b =
    sym (take-append-drop 4 b) ∙ ap (λ z. z ++ drop 4 b) (sym ((slice_eq-Decides Decides-eqb s (take 4 b) _ refl).0 e)) in
    sym (ap₂ (common_prefix_len eqb) u v ∙ common-append s (drop 4 a) (drop 4 b)
    ∙ ap (λ z. z + common_prefix_len eqb (drop 4 a) (drop 4 b)) long)

-- how many whole blocks of four are the same, of i in one list and j in the other
common_chunks : ℕ → ℕ → List ℕ → List ℕ → ℕ
common_chunks i j a b = prefix_len (λ p. pointwise eqb p.0 p.1) (zip (first_chunks 4 i a) (first_chunks 4 j b))

-- the first k are the same in both
pub record Skipped (a b : List ℕ) (k : ℕ) : Type 0 where
  pub left : k ≤ length a
  pub right : k ≤ length b
  pub rest : k + common_prefix_len eqb (drop k a) (drop k b) ≡ common_prefix_len eqb a b

none-skipped : (a b : List ℕ) → Skipped a b 0
none-skipped a b = record { left = omega arith; right = omega arith; rest = omega arith }

blocks : (i j : ℕ) (a b : List ℕ) → 4 * i ≤ length a → 4 * j ≤ length b → Skipped a b (4 * common_chunks i j a b)
unfolding common_chunks
blocks zero j a b h k = none-skipped a b
blocks (suc i) zero a b h k = none-skipped a b
blocks (suc i) (suc j) a b h k =
    go (blocks i j (drop 4 a) (drop 4 b) (grind (arith, length-drop)) (grind (arith, length-drop))) (pointwise eqb (take 4 a) (take 4 b)) refl
  where
    go : Skipped (drop 4 a) (drop 4 b) (4 * common_chunks i j (drop 4 a) (drop 4 b)) → (t : Bool) →
        pointwise eqb (take 4 a) (take 4 b) ≡ t → Skipped a b (4 * cond t (1 + common_chunks i j (drop 4 a) (drop 4 b)) 0)
    go ih true e =
        let c = common_chunks i j (drop 4 a) (drop 4 b) in
        let n : 4 * (1 + c) ≡ 4 + 4 * c = omega arith in
        let first = common-block a b (omega arith) e in
        let u = drop-drop (4 * c) 4 a in
        let v = drop-drop (4 * c) 4 b in
        rw n
        (record {
          left = let l = ih.left in grind (arith, length-drop);
          right = let l = ih.right in grind (arith, length-drop);
          rest =
              let more =
              ap (λ z. 4 * c + z) (sym (ap₂ (common_prefix_len eqb) u v)) ∙ ih.rest in
              omega (arith, more, first);
        })
    go ih false e = none-skipped a b

-- the blocks of `a.as_chunks::<4>()` and of `b.as_chunks::<4>()`
pub blocks-skipped : (a b : List ℕ) {r : ℕ} →
    r ≡ prefix_len (λ p. pointwise eqb p.0 p.1) (zip (first_chunks 4 (length a / 4) a) (first_chunks 4 (length b / 4) b)) →
    Skipped a b (4 * r)
unfolding common_chunks
blocks-skipped a b e = rw e (blocks (length a / 4) (length b / 4) a b (omega arith) (omega arith))

-- with one number more in both: the same answer
one_more : (n m at : ℕ) →
    cond (ltb n m) (Err (at + 1 + n)) (Ok (at + 1 + n)) ≡ cond (ltb (1 + n) (suc m)) (Err (at + (1 + n))) (Ok (at + (1 + n)))
one_more n m at = elim (lt_or_le n m) [
  | inl h ↦ rw (lt-ltb n m h, lt-ltb (1 + n) (suc m) (omega arith)) (ap Err (omega arith))
  | inr h ↦ rw (le-ltb n m h, le-ltb (1 + n) (suc m) (omega arith)) (ap Ok (omega arith))
]

-- where none is the same, the first is missing
none_more : (m at : ℕ) → Err at ≡ cond (ltb 0 (suc m)) (Err (at + 0)) (Ok (at + 0))
none_more m at = rw (lt-ltb 0 (suc m) (omega arith)) (ap Err (omega arith))

-- `&a[k..]`
rest_of : (a : List ℕ) (k : ℕ) → take (length a - k) (drop k a) ≡ drop k a
rest_of a k = take_all (length a - k) (drop k a) (grind (arith, length-drop))

-- both cut to one length
pub common-cut : (a b : List ℕ) (n : ℕ) → n ≡ min (length a) (length b) →
    common_prefix_len eqb (take n a) (take n b) ≡ common_prefix_len eqb a b
common-cut [] b n e =
    let none : n ≡ 0 = omega (arith, e) in
    rw none refl
common-cut (x ∷ a) [] n e =
    let none : n ≡ 0 = omega (arith, e) in
    rw none refl
common-cut (x ∷ a) (y ∷ b) n e =
    let more : n ≡ suc (min (length a) (length b)) = omega (arith, e) in
    rw more (ap (λ c. cond (eqb x y) (1 + c) 0) (common-cut a b (min (length a) (length b)) refl))

eqb-more : (c n : ℕ) → eqb (1 + c) (suc n) ≡ eqb c n
eqb-more c n =
    decides_same (eqb (1 + c) (suc n)) (eqb c n)
    (decides_map (λ h. omega (arith, h)) (λ h. omega (arith, h)) (eqb-decides (1 + c) (suc n)))
    (eqb-decides c n)

eqb-none : (n : ℕ) → eqb 0 (suc n) ≡ false
eqb-none n = ne_eqb 0 (suc n) (λ h. omega (arith, h))

-- the whole of two lists of one length
pub common-same : (k l : List ℕ) → length k ≡ length l → eqb (common_prefix_len eqb k l) (length k) ≡ same_numbers k l
unfolding same_numbers
common-same [] [] e = refl
common-same [] (y ∷ l) e = absurd (omega (arith, e))
common-same (x ∷ k) [] e = absurd (omega (arith, e))
common-same (x ∷ k) (y ∷ l) e = go (common-same k l (omega (arith, e))) (eqb x y)
  where
    go : eqb (common_prefix_len eqb k l) (length k) ≡ same_numbers k l → (t : Bool) →
        eqb (cond t (1 + common_prefix_len eqb k l) 0) (suc (length k)) ≡ (t && same_numbers k l)
    go ih true = eqb-more (common_prefix_len eqb k l) (length k) ∙ ih
    go ih false = eqb-none (length k)

-- two ranges of a file
pub same-ranges : (file : List ℕ) (a b c d : ℕ) {r : ℕ} → a ≤ b → b ≤ length file → c ≤ d → d ≤ length file → b - a ≡ d - c →
    r ≡ common_prefix_len eqb (take (b - a) (drop a file)) (take (d - c) (drop c file)) →
    eqb r (b - a) ≡ same_numbers (between file a b) (between file c d)
same-ranges file a b c d h i j k e p =
    let l = between-length file a b i in
    let m = between-length file c d k in
    ap₂ eqb (p ∙ ap₂ (common_prefix_len eqb) (between_range file a b h) (between_range file c d j)) (sym l)
    ∙ common-same (between file a b) (between file c d) (omega (arith, l, m, e))

pub no-ranges : (file : List ℕ) (a b c d : ℕ) → b ≤ a → d ≤ c → true ≡ same_numbers (between file a b) (between file c d)
unfolding same_numbers
no-ranges file a b c d h k = rw (between_none file a b h, between_none file c d k) refl

pub other-ranges : (file : List ℕ) (a b c d : ℕ) → b ≤ length file → d ≤ length file → (b - a ≡ d - c → ⊥) →
    false ≡ same_numbers (between file a b) (between file c d)
other-ranges file a b c d i k x =
    let l = between-length file a b i in
    let m = between-length file c d k in
    decides_false _ (same_numbers-decides (between file a b) (between file c d)) λ e. x (sym l ∙ ap length e ∙ m)

module _ (file : List ℕ) where
  abbrev common : ℕ → List ℕ → ℕ
  common at l = common_prefix_len eqb (drop at file) l

  first : {at : ℕ} → at < length file → drop at file ≡ get_or file at 0 ∷ drop (at + 1) file
  first {at} h = drop-cons file at 0 h ∙ ap (λ j. get_or file at 0 ∷ drop j file) (sym (add-one at))

  -- as many are passed, and then one is missing, unless there are no more
  abbrev Passed : ℕ → List ℕ → Type 0
  Passed at l = matched file (Ok at) l ≡ cond (ltb (common at l) (length l)) (Err (at + common at l)) (Ok (at + common at l))

  step : (x : ℕ) (l : List ℕ) (at : ℕ) → at < length file → Passed (at + 1) l → (b : Bool) → eqb (get_or file at 0) x ≡ b →
      Passed at (x ∷ l)
  unfolding matched
  step x l at h ih true e =
      let more : common at (x ∷ l) ≡ 1 + common (at + 1) l = rw (first h, e) refl in
      rw more
      (ap (λ m. matched file m l) (sym (word-here file at x h (eqb-true _ _ e)))
      ∙ ih ∙ one_more (common (at + 1) l) (length l) at)
  step x l at h ih false e =
      let none : common at (x ∷ l) ≡ 0 = rw (first h, e) refl in
      rw none
      (ap (λ m. matched file m l) (sym (word-other file at x h (eqb-false _ _ e))) ∙ sym (matched-lost file at l) ∙ none_more (length l) at)

  passed : (l : List ℕ) (at : ℕ) → Passed at l
  unfolding matched
  passed [] at =
      let none : common at [] ≡ 0 = omega (arith, (common_prefix_len-le eqb (drop at file) []).1) in
      rw none (ap Ok (omega arith))
  passed (x ∷ l) at = elim (lt_or_le at (length file)) [
    | inl h ↦ step x l at h (passed l (at + 1)) (eqb (get_or file at 0) x) refl
    | inr h ↦
        let none : common at (x ∷ l) ≡ 0 = rw (drop_of_length-le file h) refl in
        rw none
        (ap (λ m. matched file m l) (sym (word_out file at x h)) ∙ sym (matched-lost file at l) ∙ none_more (length l) at)
  ]

  -- r numbers are the same from `at` on and from `from` on, before `to`
  module _ (at from to : ℕ) {r : ℕ} (order : from ≤ to) (within : to ≤ length file)
      (e : r ≡ common_prefix_len eqb (take (length file - at) (drop at file)) (take (to - from) (drop from file))) where
    asked : r ≡ common at (between file from to)
    asked = e ∙ ap₂ (common_prefix_len eqb) (rest_of file at) (between_range file from to order)

    count : length (between file from to) ≡ to - from
    count = between-length file from to within

    pub range-missing : r < to - from → Err (at + r) ≡ matched file (Ok at) (between file from to)
    range-missing h =
        let l = between file from to in
        let k : common at l < length l = omega (arith, asked, count) in
        sym (passed l at ∙ rw (lt-ltb (common at l) (length l) k) (ap (λ n. Err (at + n)) (sym asked)))

    pub range-whole : to - from ≤ r → Ok (at + r) ≡ matched file (Ok at) (between file from to)
    range-whole h =
        let l = between file from to in
        let k : length l ≤ common at l = omega (arith, asked, count) in
        sym (passed l at ∙ rw (le-ltb (common at l) (length l) k) (ap (λ n. Ok (at + n)) (sym asked)))

    pub range-inside : at ≤ length file → at + r ≤ length file
    range-inside h =
        let n = (common_prefix_len-le eqb (drop at file) (between file from to)).0 in
        omega (arith, asked, n, length-drop at file)
