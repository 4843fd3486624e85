-- Numbers that lead from one place to another are those between them.
-- Assumes nothing.
--     whole-sound, whole-complete    numbers that lead from one place to another are those between them, and back
--     whole-past                     the place past them lies as many further on
--     range_same, range_other, range-out
--                                    the numbers between two places stand from a place on, do not, have no room there
use mathlib.Core.Path.{◌≡◌, refl, sym, ap, ◌∙◌}
use mathlib.Core.Bool.{Bool, true, false, ◌&&◌, cond}
use mathlib.Core.List.{List, [], ◌∷◌}
use Prim.Native.Nat.{ℕ, zero, suc, ◌+◌, ◌-◌, ◌<◌, ◌≤◌}
use native.Mathlib.Decide.{dec_lt}
use native.Mathlib.Omega.{arith}
use borrow.Author.Tests.{ltb-true, eqb-true}
use lib.Dec.{eqb, ltb}
use lib.ListN.{length, get_or}
use Rattle.std.specs.Prelude.{Result, Ok, Err}
use Rattle.laws.proofs.Bools.{and_left, and_right}
use Rattle.matching.specs.Matching.{between, matched_word, matched}
use Rattle.matching.proofs.Ranges.{between_none, between_first, between-length}
use Rattle.matching.proofs.Matching.{matched-lost, word-here, all-out}

module _ (file : List ℕ) where
  -- the numbers stand from one place up to another
  record NumbersStand (at : ℕ) (l : List ℕ) (end : ℕ) : Type 0 where
    past : end ≡ at + length l
    within : end ≤ length file
    same : between file at end ≡ l

  module _ (x : ℕ) (l : List ℕ) (at end : ℕ)
      (ih : at + 1 ≤ length file → matched file (Ok (at + 1)) l ≡ Ok end → NumbersStand (at + 1) l end) where
    step : (b : Bool) → (ltb at (length file) && eqb (get_or file at 0) x) ≡ b →
        matched file (cond b (Ok (at + 1)) (Err at)) l ≡ Ok end → NumbersStand at (x ∷ l) end
    step true e h =
        let inside = ltb-true at (length file) (and_left (ltb at (length file)) (eqb (get_or file at 0) x) e) in
        let here = eqb-true (get_or file at 0) x (and_right (ltb at (length file)) (eqb (get_or file at 0) x) e) in
        let p = ih (omega arith) h in
        let q = p.past in
        record {
          past = omega arith;
          within = p.within;
          same =
              between_first file at end (omega arith) p.within ∙ ap (λ z. z ∷ between file (at + 1) end) here
              ∙ ap (λ z. x ∷ z) p.same;
        }
    step false e h = let lost : Err at ≡ Ok end = matched-lost file at l ∙ h in absurd (cc)

  stand : (l : List ℕ) (at end : ℕ) → at ≤ length file → matched file (Ok at) l ≡ Ok end → NumbersStand at l end
  unfolding matched matched_word
  stand [] at end i h =
      let e : at ≡ end = cc in
      record { past = omega arith; within = omega arith; same = between_none file at end (omega arith) }
  stand (x ∷ l) at end i h =
      step x l at end (λ j k. stand l (at + 1) end j k) (ltb at (length file) && eqb (get_or file at 0) x) refl h

  pub whole-past : (l : List ℕ) (at end : ℕ) → at ≤ length file → matched file (Ok at) l ≡ Ok end → end ≡ at + length l
  whole-past l at end i h = (stand l at end i h).past

  pub whole-sound : (l : List ℕ) (at end : ℕ) → at ≤ length file → matched file (Ok at) l ≡ Ok end → between file at end ≡ l
  whole-sound l at end i h = (stand l at end i h).same

  reaches : (n at to : ℕ) → to ≡ at + n → to ≤ length file → matched file (Ok at) (between file at to) ≡ Ok to
  unfolding matched
  reaches zero at to e h = rw (between_none file at to (omega arith)) (ap Ok (omega arith))
  reaches (suc n) at to e h =
      rw (between_first file at to (omega arith) h)
      (ap (λ m. matched file m (between file (at + 1) to)) (sym (word-here file at (get_or file at 0) (omega arith) refl))
      ∙ reaches n (at + 1) to (omega arith) h)

  pub whole-complete : (at to : ℕ) → at ≤ to → to ≤ length file → matched file (Ok at) (between file at to) ≡ Ok to
  whole-complete at to h k = reaches (to - at) at to (omega arith) k

  -- a list stands from a place on, or one of its numbers is missing
  unless : (l : List ℕ) (at : ℕ) → at ≤ length file → ((end : ℕ) → NumbersStand at l end → ⊥) → (p : ℕ) × (Err p ≡ matched file (Ok at) l)
  unless l at i n = go (matched file (Ok at) l) refl
    where
      go : (m : Result ℕ ℕ) → matched file (Ok at) l ≡ m → (p : ℕ) × (Err p ≡ matched file (Ok at) l)
      go (Err p) e = (p, sym e)
      go (Ok end) e = absurd (n end (stand l at end i e))

  module _ (at from to : ℕ) (inside : to ≤ length file) where
    pub range_same : at + (to - from) ≤ length file → between file at (at + (to - from)) ≡ between file from to →
        Ok (at + (to - from)) ≡ matched file (Ok at) (between file from to)
    range_same h e = sym (ap (matched file (Ok at)) (sym e) ∙ whole-complete at (at + (to - from)) (omega arith) h)

    pub range_other : at + (to - from) ≤ length file → (between file at (at + (to - from)) ≡ between file from to → ⊥) →
        (p : ℕ) × (Err p ≡ matched file (Ok at) (between file from to))
    range_other h n =
        let l = between-length file from to inside in
        unless (between file from to) at (omega arith)
        (λ end s. let p = s.past in let e : end ≡ at + (to - from) = omega arith in n (ap (between file at) (sym e) ∙ s.same))

    pub range-out : from < to → length file < at + (to - from) → (p : ℕ) × (Err p ≡ matched file (Ok at) (between file from to))
    range-out h k =
        let l = between-length file from to inside in
        elim (dec_lt at (length file)) [
          | yes j ↦ unless (between file from to) at (omega arith) (λ end s. let p = s.past in let q = s.within in omega arith)
          | no j ↦ (at, all-out file (between file from to) at (omega arith) (omega arith))
        ]
