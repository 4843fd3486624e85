-- Masks stored from the last word to the first.
-- Assumes nothing.
--     Filling                          the masks of the words from a place on are stored
--     filling_more                     after a turn
use mathlib.Core.Path.{◌≡◌, sym, ap, subst, ◌∙◌}
use mathlib.Core.List.{List}
use mathlib.Core.Logic.{inl, inr}
use Prim.Native.Nat.{ℕ, ◌-◌, ◌<◌, ◌≤◌}
use native.Mathlib.Omega.{arith}
use native.Mathlib.Nat.{eq-or-lt_of_le}
use lib.ListN.{length, get_or, set, length-set}
use lib.Seq.{get_or-set_same, get_or-set_other}
use Rattle.masks.specs.Filled.{RangeMarks, CanStore}

module _ (file ends before : List ℕ) where
  pub record Filling (masks : List ℕ) (i : ℕ) : Type 0 where
    pub inside : i ≤ length file
    pub same_length : length masks ≡ length before
    pub marks : (at : ℕ) → i ≤ at → at < length file → RangeMarks file ends at at (get_or masks at 0)
    pub small : (at : ℕ) → i ≤ at → at < length file → get_or masks at 0 < 18446744073709551616
    pub kept : (at : ℕ) → length file ≤ at → get_or masks at 0 ≡ get_or before at 0

  module _ (can : CanStore file ends before) {masks : List ℕ} {i : ℕ} (more : 0 < i) (f : Filling masks i) where
    -- at the place of this turn, and after it
    here-or_later : (P : ℕ → Type 0) {v : ℕ} → P v → (at : ℕ) → i - 1 ≤ at → at < length file →
        (i ≤ at → P (get_or masks at 0)) → P (get_or (set masks (i - 1) v) at 0)
    here-or_later P {v} p at l h g = elim (eq-or-lt_of_le l) [
      | inl e ↦
          subst P
          (sym (ap (λ j. get_or (set masks (i - 1) v) j 0) (sym e)
          ∙ get_or-set_same masks (i - 1) v 0 (omega (arith, f.same_length, can.room))))
          p
      | inr k ↦ subst P (sym (get_or-set_other masks (i - 1) at v 0 (λ e. omega arith))) (g (omega arith))
    ]

    pub filling_more : {v : ℕ} → RangeMarks file ends (i - 1) (i - 1) v → v < 18446744073709551616 →
        Filling (set masks (i - 1) v) (i - 1)
    filling_more {v} m s = record {
      inside = omega (arith, f.inside);
      same_length = length-set masks (i - 1) v ∙ f.same_length;
      marks = λ at l h. elim (eq-or-lt_of_le l) [
        | inl e ↦
            subst (λ j. RangeMarks file ends j j (get_or (set masks (i - 1) v) j 0)) e
            (subst (RangeMarks file ends (i - 1) (i - 1))
            (sym (get_or-set_same masks (i - 1) v 0 (omega (arith, f.same_length, can.room)))) m)
        | inr k ↦
            subst (RangeMarks file ends at at) (sym (get_or-set_other masks (i - 1) at v 0 (λ e. omega arith)))
            (f.marks at (omega arith) h)
      ];
      small = λ at l h. here-or_later (λ n. n < 18446744073709551616) s at l h (λ k. f.small at k h);
      kept = λ at h. get_or-set_other masks (i - 1) at v 0 (λ e. omega (arith, f.inside)) ∙ f.kept at h;
    }
