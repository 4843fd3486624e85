-- Equality of lists of numbers as a test: of what stands at a place, of two parts of a file, of words.
-- Assumes nothing.
--     same_numbers-decides     equality of numbers
--     ranges_same              `==` on two ranges of a slice
--     numbers-equal, numbers-differ
--                              where it is true, and where it isn't
--     came_same                numbers that stand up to the end of a part are its own
--     parts_last, parts-rest   two parts: with other last words, the words before these
--     came-to                  the test whether numbers stand up to the end of a part
--     numbers-same             sameness by words, of words that their numbers tell
use mathlib.Core.Path.{◌≡◌, refl, sym, ap, ap₂, ◌∙◌}
use mathlib.Core.Bool.{Bool, true, false, ◌&&◌}
use mathlib.Core.List.{List, [], ◌∷◌, ◌++◌, head-eq_of_cons-eq, tail-eq_of_cons-eq, cons≢nil, nil≢cons}
use Prim.Native.Nat.{ℕ, ◌-◌, ◌≤◌}
use native.Mathlib.Omega.{arith}
use lib.Dec.{eqb}
use lib.ListN.{length, get_or, take, drop}
use Rattle.std.specs.Prelude.{Result, Ok, Err}
use Rattle.std.specs.Cmp.Lexicographic.{pointwise}
use Rattle.laws.proofs.Bools.{clash}
use Rattle.laws.proofs.Decides.{Decides, decides_same, decides_map, decides_and, decides_yes, decides_no, eqb-decides}
use Rattle.rules.specs.Words.{Word, same_words}
use Rattle.rules.proofs.Decides.{same_words-decides}
use Rattle.matching.specs.Matching.{between, numbers, matched, came, same_numbers}
use Rattle.ends.specs.Places.{end_at, PartKnown}
use Rattle.matching.specs.Places.{part}
use Rattle.matching.proofs.Ranges.{between_range, between-last, between-length}
use Rattle.matching.proofs.Whole.{whole-sound, whole-complete}

-- a test of what does not hold

pub decides_false : (b : Bool) {P : Type 0} → Decides b P → (P → ⊥) → false ≡ b
decides_false b d f = decides_same false b (decides_no f) d

pub same_numbers-decides : (k l : List ℕ) → Decides (same_numbers k l) (k ≡ l)
unfolding same_numbers
same_numbers-decides [] [] = decides_yes refl
same_numbers-decides [] (y ∷ l) = decides_no nil≢cons
same_numbers-decides (x ∷ k) [] = decides_no cons≢nil
same_numbers-decides (x ∷ k) (y ∷ l) =
    decides_map
    (λ h. ap₂ ◌∷◌ h.0 h.1)
    (λ h. (head-eq_of_cons-eq h, tail-eq_of_cons-eq h))
    (decides_and (eqb-decides x y) (same_numbers-decides k l))

-- a place past numbers is another
came-decides : (m : Result ℕ ℕ) (to : ℕ) → Decides (came m to) (m ≡ Ok to)
unfolding came
came-decides (Err at) to = decides_no (λ h. absurd (cc))
came-decides (Ok at) to = decides_map (λ h. ap Ok h) (λ h. let e : at ≡ to = cc in e) (eqb-decides at to)

-- `==` on slices
pointwise-same : (k l : List ℕ) → pointwise eqb k l ≡ same_numbers k l
unfolding same_numbers
pointwise-same [] [] = refl
pointwise-same [] (y ∷ l) = refl
pointwise-same (x ∷ k) [] = refl
pointwise-same (x ∷ k) (y ∷ l) = ap (λ b. eqb x y && b) (pointwise-same k l)

pub ranges_same : (file : List ℕ) (a b c d : ℕ) → a ≤ b → c ≤ d →
    pointwise eqb (take (b - a) (drop a file)) (take (d - c) (drop c file)) ≡ same_numbers (between file a b) (between file c d)
ranges_same file a b c d h k =
    pointwise-same (take (b - a) (drop a file)) (take (d - c) (drop c file))
    ∙ ap₂ same_numbers (between_range file a b h) (between_range file c d k)

-- what the test says
pub numbers-equal : (k l : List ℕ) {r : Bool} → r ≡ same_numbers k l → r ≡ true → k ≡ l
numbers-equal k l e h = (same_numbers-decides k l).sound (sym e ∙ h)

pub numbers-differ : (k l : List ℕ) {r : Bool} → r ≡ same_numbers k l → r ≡ false → k ≡ l → ⊥
numbers-differ k l e h s = clash ((same_numbers-decides k l).complete s) (sym e ∙ h)

-- the numbers l are asked for from a place on
module _ (file : List ℕ) (m : Result ℕ ℕ) (l : List ℕ) (at to : ℕ) (order : at ≤ to) (within : to ≤ length file)
    (e : m ≡ matched file (Ok at) l) where
  reached : between file at to ≡ l → m ≡ Ok to
  reached h = e ∙ ap (matched file (Ok at)) (sym h) ∙ whole-complete file at to order within

  passed : m ≡ Ok to → between file at to ≡ l
  passed h = whole-sound file l at to (omega arith) (sym e ∙ h)

  pub came_same : came m to ≡ same_numbers (between file at to) l
  came_same =
      decides_same (came m to) (same_numbers (between file at to) l)
      (decides_map passed reached (came-decides m to))
      (same_numbers-decides (between file at to) l)

-- two lists whose first parts are of one length
both : (k l a b : List ℕ) → length k ≡ length l → k ++ a ≡ l ++ b → (k ≡ l) × (a ≡ b)
both [] [] a b n h = (refl, h)
both [] (y ∷ l) a b n h = absurd (omega arith)
both (x ∷ k) [] a b n h = absurd (omega arith)
both (x ∷ k) (y ∷ l) a b n h =
    let r = both k l a b (omega arith) (tail-eq_of_cons-eq h) in
    (ap₂ ◌∷◌ (head-eq_of_cons-eq h) r.0, r.1)

module _ (file ends : List ℕ) (f g : ℕ) (p : PartKnown file ends f) (q : PartKnown file ends g) (e to : ℕ) (h : e ≡ end_at ends f)
    (k : to ≡ end_at ends g) where
  -- the words before the last, and the last
  ended : between file f e ≡ between file g to →
      (between file f (e - 1) ≡ between file g (to - 1)) × (get_or file (e - 1) 0 ≡ get_or file (to - 1) 0)
  ended r =
      let s = p.start in
      let t = q.start in
      let i = p.inside in
      let j = q.inside in
      let n : e - f ≡ to - g = sym (between-length file f e (omega arith)) ∙ ap length r ∙ between-length file g to (omega arith) in
      let u = between-length file f (e - 1) (omega arith) in
      let v = between-length file g (to - 1) (omega arith) in
      let z =
      both (between file f (e - 1)) (between file g (to - 1)) _ _ (omega arith)
      (sym (between-last file f e (omega arith) (omega arith)) ∙ r ∙ between-last file g to (omega arith) (omega arith)) in
      (z.0, head-eq_of_cons-eq z.1)

  joined : (between file f (e - 1) ≡ between file g (to - 1)) × (get_or file (e - 1) 0 ≡ get_or file (to - 1) 0) →
      between file f e ≡ between file g to
  joined r =
      let s = p.start in
      let t = q.start in
      let i = p.inside in
      let j = q.inside in
      between-last file f e (omega arith) (omega arith)
      ∙ ap₂ (λ z c. z ++ (c ∷ [])) r.0 r.1
      ∙ sym (between-last file g to (omega arith) (omega arith))

  decided : Decides (same_numbers (part file ends f) (part file ends g)) (between file f e ≡ between file g to)
  decided = rw (h, k) (same_numbers-decides (part file ends f) (part file ends g))

  pub parts_last : (get_or file (e - 1) 0 ≡ get_or file (to - 1) 0 → ⊥) →
      false ≡ same_numbers (part file ends f) (part file ends g)
  parts_last x = decides_false _ decided λ r. x (ended r).1

  pub parts-rest : get_or file (e - 1) 0 ≡ get_or file (to - 1) 0 →
      same_numbers (between file f (e - 1)) (between file g (to - 1)) ≡ same_numbers (part file ends f) (part file ends g)
  parts-rest x =
      decides_same _ _
      (decides_map (λ r. joined (r, x)) (λ r. (ended r).0) (same_numbers-decides (between file f (e - 1)) (between file g (to - 1))))
      decided

-- the test whether all stood up to the end of the part at a place
module _ (file ends : List ℕ) (at : ℕ) (p : PartKnown file ends at) {r : Bool} where
  pub came-to : (m : Result ℕ ℕ) (l : List ℕ) → m ≡ matched file (Ok at) l → r ≡ came m (end_at ends at) →
      r ≡ same_numbers (part file ends at) l
  came-to m l e h =
      let s = p.start in
      h ∙ came_same file m l at (end_at ends at) (omega arith) p.inside e

-- words that their numbers tell
pub numbers-same : (k l : List Word) → (numbers k ≡ numbers l → k ≡ l) → same_numbers (numbers k) (numbers l) ≡ same_words k l
numbers-same k l tell =
    decides_same (same_numbers (numbers k) (numbers l)) (same_words k l)
    (decides_map tell (λ h. ap numbers h) (same_numbers-decides (numbers k) (numbers l)))
    (same_words-decides k l)
