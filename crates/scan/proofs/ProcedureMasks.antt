-- How many procedures a file has, and the masks of what they modify, as they are filled in order.
-- Assumes nothing.
--     count_none, count_some                            the count by word 1
--     count_most                                        at most 16
--     Masking                                           the masks of the procedures before one are made
--     masking_more                                      after a turn
--     MasksAgree, made-moved                            two lists with the same ends, starts and masks; masks made in one, in the other
use mathlib.Core.Path.{◌≡◌, refl, sym, ap, subst, ◌∙◌}
use mathlib.Core.Bool.{Bool, true, false, cond}
use mathlib.Core.List.{List}
use mathlib.Core.Logic.{inl, inr}
use Prim.Native.Nat.{ℕ, ◌+◌, ◌*◌, ◌-◌, ◌<◌, ◌≤◌, min}
use native.Mathlib.Omega.{arith}
use borrow.Author.Tests.{eq-eqb, ne_eqb, leb-true, leb-false, lt-ltb}
use lib.Dec.{eqb, leb}
use lib.ListN.{length, get_or}
use Rattle.layout.specs.Bytes.{kind_at, payload_at}
use Rattle.ends.specs.Blocks.{table_at, procedure_mask, called_mask, marks_in, Marks, CanBlock}
use Rattle.ends.specs.Places.{end_at}
use Rattle.ends.specs.Procedures.{start_at, mask_at}
use Rattle.ends.proofs.Sizes.{lt_or_le}
use Rattle.ends.proofs.Marks.{marks-range}
use Rattle.ends.proofs.Put.{put, put-length, put_other, put-block, put-before}
use Rattle.scan.specs.Programs.{procedure_count, MaskMade}

module _ (file : List ℕ) where
  pub count_none : (kind_at file 1 ≡ 62 → ⊥) → 0 ≡ procedure_count file
  unfolding procedure_count
  count_none h = rw (ne_eqb (kind_at file 1) 62 h, procedure_count) refl

  pub count_some : kind_at file 1 ≡ 62 → min (payload_at file 1) 16 ≡ procedure_count file
  unfolding procedure_count
  count_some e = rw (eq-eqb (kind_at file 1) 62 e, procedure_count) (go (leb (payload_at file 1) 16) refl)
    where
      go : (a : Bool) → leb (payload_at file 1) 16 ≡ a → min (payload_at file 1) 16 ≡ cond a (payload_at file 1) 16
      go true e = let h = leb-true (payload_at file 1) 16 e in omega arith
      go false e = let h = leb-false (payload_at file 1) 16 e in omega arith

  pub count_most : procedure_count file ≤ 16
  unfolding procedure_count
  count_most = go (eqb (kind_at file 1) 62) (leb (payload_at file 1) 16) refl
    where
      go : (a b : Bool) → leb (payload_at file 1) 16 ≡ b → cond a (cond b (payload_at file 1) 16) 0 ≤ 16
      go true true e = leb-true (payload_at file 1) 16 e
      go true false e = omega arith
      go false b e = omega arith

-- two lists of ends, as far as the masks up to number i go
pub record MasksAgree (file l m : List ℕ) (i : ℕ) : Type 0 where
  pub ends : (at : ℕ) → at < length file → get_or m at 0 ≡ get_or l at 0
  pub starts : start_at file m i ≡ start_at file l i
  pub masks : (j : ℕ) → j ≤ i → mask_at file m j ≡ mask_at file l j

pub made-moved : {file l m : List ℕ} {i : ℕ} → MasksAgree file l m i → MaskMade file l i → MaskMade file m i
made-moved {file} {l} {m} {i} a x = record {
  called = x.called;
  lower = λ j h. x.lower j h ∙ sym (a.masks j (omega arith));
  marks = λ from to s f e t.
      subst (Marks x.called file (to - from) from) (sym (a.masks i (omega arith)))
      (x.marks from to (sym a.starts ∙ s) f (sym (a.ends from f) ∙ e) t);
}

module _ (file before : List ℕ) where
  pub record Masking (ends : List ℕ) (i : ℕ) : Type 0 where
    pub same_length : length ends ≡ length before
    pub kept : (at : ℕ) → at < table_at file + 17 → get_or ends at 0 ≡ get_or before at 0
    pub made : (j : ℕ) → j < i → MaskMade file ends j

  module _ (can : CanBlock file before) {ends : List ℕ} {i : ℕ} (m : Masking ends i) (more : i < procedure_count file) where
    abbrev place : ℕ
    place = table_at file + 17 + 2 * i

    room : place + 1 < length ends
    room = omega (arith, can.room, m.same_length, count_most file)

    -- masks of lower numbers stand before it
    lower-kept : (v j : ℕ) → j < i → mask_at file (put ends place v) j ≡ mask_at file ends j
    lower-kept v j h = put-before ends place v (table_at file + 17 + 2 * j) (omega arith)

    table_kept : (v at : ℕ) → at < table_at file + 17 → get_or (put ends place v) at 0 ≡ get_or ends at 0
    table_kept v at h = put_other ends place v at (λ e. omega arith) (λ e. omega arith)

    stored : (n : ℕ) → n < 16 → called_mask file ends n ≡ mask_at file ends n
    unfolding procedure_mask
    stored n h = rw (lt-ltb n 16 h, procedure_mask) refl

    -- the mask of this turn
    own : (v from to : ℕ) → from ≡ get_or ends (table_at file + i) 0 → (end_at ends from ≤ length file → to ≡ end_at ends from) →
        v ≡ marks_in (called_mask file ends) file (to - from) from 0 → MaskMade file (put ends place v) i
    own v from to f t e = record {
      called = called_mask file ends;
      lower = λ j h. stored j (omega (arith, count_most file)) ∙ sym (lower-kept v j h);
      marks = λ a b s l g n.
          let start : from ≡ a = f ∙ sym (table_kept v (table_at file + i) (omega (arith, count_most file))) ∙ s in
          let end : end_at ends a ≡ b = sym (table_kept v a (omega arith)) ∙ g in
          let same : end_at ends from ≡ b = ap (end_at ends) start ∙ end in
          let last : to ≡ b = t (omega arith) ∙ same in
          subst (Marks (called_mask file ends) file (b - a) a) (sym (put-block ends place v room))
          (subst (λ x. Marks (called_mask file ends) file (b - x) x v) start
          (subst (λ x. Marks (called_mask file ends) file (x - from) from v) last (marks-range file e)));
    }

    written : (v : ℕ) → MaskMade file (put ends place v) i → Masking (put ends place v) (i + 1)
    written v x = record {
      same_length = put-length ends place v ∙ m.same_length;
      kept = λ at h. table_kept v at h ∙ m.kept at h;
      made = λ j h. elim (lt_or_le j i) [
        | inl l ↦
            made-moved (record {
              ends = λ at k. table_kept v at (omega arith);
              starts = table_kept v (table_at file + j) (omega (arith, count_most file));
              masks = λ k o. lower-kept v k (omega arith);
            }) (m.made j l)
        | inr l ↦ let same : i ≡ j = omega arith in subst (MaskMade file (put ends place v)) same x
      ];
    }

    pub masking_more : {v from to : ℕ} {l : List ℕ} → from ≡ get_or ends (table_at file + i) 0 →
        (end_at ends from ≤ length file → to ≡ end_at ends from) →
        v ≡ marks_in (called_mask file ends) file (to - from) from 0 → l ≡ put ends place v → Masking l (i + 1)
    masking_more {v} {from} {to} f t e h = subst (λ l. Masking l (i + 1)) (sym h) (written v (own v from to f t e))
