-- The masks of a word's parts, one after the other, are those of the words up to its end; with what the word itself assigns they are its
-- own.
-- Assumes nothing.
--     Joining                      the masks of the parts before a place are joined
--     joining_none, joining_more, joining_stop, joining_all
--                                  before the first part; after a part; at the end of the file; after the last
--     with_first                   with what the word assigns
use mathlib.Core.Path.{◌≡◌, sym, ap, subst, ◌∙◌}
use mathlib.Core.Bool.{◌||◌, or_comm}
use mathlib.Core.List.{List}
use Prim.Native.Nat.{ℕ, suc, ◌+◌, ◌-◌, ◌<◌, ◌≤◌}
use native.Mathlib.Omega.{arith}
use native.Mathlib.Numerals.{add-one}
use lib.Bits.{bit_or}
use lib.ListN.{length, get_or}
use Rattle.layout.specs.Bytes.{kind_at, payload_at}
use Rattle.layout.specs.Nodes.{count_of}
use Rattle.ends.specs.Mask.{bit, slot}
use Rattle.ends.specs.Blocks.{called_mask, written, any_in, assigns, with_mark, Marks}
use Rattle.ends.specs.Ends.{EndsListed}
use Rattle.ends.specs.Places.{end_at}
use Rattle.ends.specs.Sizes.{follow}
use Rattle.ends.proofs.Sizes.{sizes-at, sizes-inside, follow-none, follow-stop, follow-on, follow-past}
use Rattle.ends.proofs.Marks.{mark-bit, marks-empty, marks-join}
use Rattle.masks.specs.Filled.{RangeMarks, CanMask}

module _ (file ends : List ℕ) where
  pub record Joining (at left next mask : ℕ) : Type 0 where
    pub onward : at + 1 ≤ next
    pub inside : next ≤ length file
    pub marks : Marks (called_mask file ends) file (next - (at + 1)) (at + 1) mask
    pub rest : follow ends (length file) left next ≡ end_at ends at

  -- the part that starts at a place has a word, and ends inside the file
  pub part_end : {at : ℕ} → EndsListed file ends → at < length file → (at < end_at ends at) × (end_at ends at ≤ length file)
  part_end {at} e h =
      let s = e.sized at h in
      let t = sizes-at file at h in
      let i = sizes-inside file at h in
      (omega arith, omega arith)

  module _ {masks : List ℕ} {at : ℕ} (can : CanMask file ends masks at) where
    pub joining_none : {n : ℕ} → n ≡ count_of (kind_at file at) (payload_at file at) → Joining at n (at + 1) 0
    joining_none {n} e = record {
      onward = omega arith;
      inside = omega (arith, can.inside);
      marks =
          let z : 0 ≡ at + 1 - (at + 1) = omega arith in
          subst (λ k. Marks (called_mask file ends) file k (at + 1) 0) z (marks-empty file (at + 1));
      rest =
          follow-past file ends 0 (λ i l h. can.listed.sized i h) n (at + 1) (omega arith)
          ∙ rw (add-one at, e) (go (can.listed.sized at can.inside) (sizes-at file at can.inside));
    }
      where
        go : {k p : ℕ} → end_at ends at ≡ at + k → k ≡ suc p → suc at + p ≡ end_at ends at
        go h i = omega arith

    pub joining_more : {n k next mask v : ℕ} → k < n → next < length file → Joining at (n - k) next mask → v ≡ end_at ends next →
        Joining at (n - (k + 1)) v (bit_or mask (get_or masks next 0))
    joining_more {n} {k} {next} {mask} {v} l i j e =
        let p = part_end can.listed i in
        let o = j.onward in
        let q : next ≡ at + 1 + (next - (at + 1)) = omega arith in
        let r : next - (at + 1) + (end_at ends next - next) ≡ v - (at + 1) = omega arith in
        let m = can.later next (omega arith) i in
        record {
          onward = omega arith;
          inside = omega arith;
          marks =
              subst (λ k. Marks (called_mask file ends) file k (at + 1) (bit_or mask (get_or masks next 0))) r
              (marks-join file j.marks
              (subst (λ s. Marks (called_mask file ends) file (end_at ends next - next) s (get_or masks next 0)) q m));
          rest = ap (follow ends (length file) (n - (k + 1))) e ∙ sym (follow-on ends (length file) n k next l i) ∙ j.rest;
        }

  pub joining_stop : {at left next mask : ℕ} → length file ≤ next → Joining at left next mask → RangeMarks file ends (at + 1) at mask
  joining_stop {at} {left} {next} {mask} h j =
      let e = sym (follow-stop ends (length file) left next h) ∙ j.rest in
      subst (λ p. Marks (called_mask file ends) file (p - (at + 1)) (at + 1) mask) e j.marks

  pub joining_all : {at left next mask : ℕ} → left ≤ 0 → Joining at left next mask → RangeMarks file ends (at + 1) at mask
  joining_all {at} {left} {next} {mask} h j =
      let e = sym (follow-none ends (length file) left next h) ∙ j.rest in
      subst (λ p. Marks (called_mask file ends) file (p - (at + 1)) (at + 1) mask) e j.marks

  pub with_first : {at mask r : ℕ} → EndsListed file ends → at < length file → RangeMarks file ends (at + 1) at mask →
      r ≡ with_mark mask (written (called_mask file ends) (kind_at file at) (payload_at file at)) → RangeMarks file ends at at r
  unfolding any_in
  with_first {at} {mask} {r} e h m f =
      let p = part_end e h in
      let n : suc (end_at ends at - (at + 1)) ≡ end_at ends at - at = omega arith in
      subst (λ k. Marks (called_mask file ends) file k at r) n (record {
        marks = λ x.
            let o = written (called_mask file ends) (kind_at file at) (payload_at file at) in
            let rest : bit mask (slot x) ≡ any_in (assigns (called_mask file ends) x) file (end_at ends at - (at + 1)) (suc at) =
            m.marks x ∙ ap (any_in (assigns (called_mask file ends) x) file (end_at ends at - (at + 1))) (add-one at) in
            ap (λ k. bit k (slot x)) f ∙ mark-bit o mask (slot x)
            ∙ or_comm (bit mask (slot x)) (assigns (called_mask file ends) x (kind_at file at) (payload_at file at))
            ∙ ap (λ b. assigns (called_mask file ends) x (kind_at file at) (payload_at file at) || b) rest;
      })
