-- Two files that differ only within a part, which has the same size in both: all that starts elsewhere has the same size, by
-- induction from the last word to the first. Assumes nothing.
--     sizes-drop       the sizes of the words from a place on
--     Kept, RowKept    the size at a place is the same, and what starts there does not end within the part; so of parts in a row
--     sizes-swapped    the law
use mathlib.Core.Path.{◌≡◌, refl, sym, ap, ap₂, subst, ◌∙◌}
use mathlib.Core.Logic.{inl, inr}
use mathlib.Core.List.{List, [], ◌∷◌}
use Prim.Native.Nat.{ℕ, zero, suc, ◌+◌, ◌-◌, ◌<◌, ◌≤◌}
use native.Mathlib.Omega.{arith}
use lib.ListN.{length, get_or, drop, length-drop}
use lib.Seq.{get_or-drop, ext_get_or}
use Rattle.layout.specs.Bytes.{kind_at, payload_at}
use Rattle.layout.specs.Nodes.{count_of}
use Rattle.ends.specs.Sizes.{past, sizes}
use Rattle.ends.proofs.Sizes.{lt_or_le, sizes-length, sizes-at, past_more, past-none}

pub sizes-drop : (n : ℕ) (l : List ℕ) → sizes (drop n l) ≡ drop n (sizes l)
unfolding sizes
sizes-drop zero l = refl
sizes-drop (suc n) [] = refl
sizes-drop (suc n) (x ∷ l) = sizes-drop n l

module _
    (w v : List ℕ) (place to : ℕ) (same_length : length v ≡ length w) (start : place < to) (inside : to ≤ length w)
    (before : (i : ℕ) → i < place → get_or v i 0 ≡ get_or w i 0) (behind : (i : ℕ) → to ≤ i → get_or v i 0 ≡ get_or w i 0)
    (size-w : place + get_or (sizes w) place 0 ≡ to) (size-v : place + get_or (sizes v) place 0 ≡ to)
  where
    -- a place that is not within the part, past its first word
    abbrev Outside : ℕ → Type 0
    Outside at = place < at → to ≤ at

    record Kept (at : ℕ) : Type 0 where
      same : get_or (sizes v) at 0 ≡ get_or (sizes w) at 0
      lands : Outside (at + get_or (sizes w) at 0)

    drop-same : drop to v ≡ drop to w
    drop-same =
        ext_get_or 0 (drop to v) (drop to w) (length-drop to v ∙ ap (λ n. n - to) same_length ∙ sym (length-drop to w))
        λ i h. get_or-drop to v i 0 ∙ behind (to + i) (omega arith) ∙ sym (get_or-drop to w i 0)

    kept-behind : (at : ℕ) → to ≤ at → Kept at
    kept-behind at h =
        let e : to + (at - to) ≡ at = omega arith in
        record {
          same =
              ap (λ j. get_or (sizes v) j 0) (sym e) ∙ sym (get_or-drop to (sizes v) (at - to) 0)
              ∙ ap (λ l. get_or l (at - to) 0) (sym (sizes-drop to v) ∙ ap sizes drop-same ∙ sizes-drop to w)
              ∙ get_or-drop to (sizes w) (at - to) 0 ∙ ap (λ j. get_or (sizes w) j 0) e;
          lands = λ l. omega arith;
        }

    kept-place : Kept place
    kept-place = record { same = omega arith; lands = λ l. omega arith }

    -- n parts from `at` on have the same words, and do not end within the part
    record RowKept (n at : ℕ) : Type 0 where
      words : past n (drop at (sizes v)) ≡ past n (drop at (sizes w))
      lands : Outside (at + past n (drop at (sizes w)))

    row_kept : {from : ℕ} → ((at : ℕ) → from ≤ at → Outside at → Kept at) → (n at : ℕ) → from ≤ at → Outside at →
        RowKept n at
    unfolding past
    row_kept f zero at l o = record { words = refl; lands = λ h. omega (arith, o (omega arith)) }
    row_kept f (suc n) at l o = elim (lt_or_le at (length w)) [
      | inl h ↦
          let k = f at l o in
          let r = row_kept f n (at + get_or (sizes w) at 0) (omega arith) k.lands in
          let ev = past_more (sizes v) at n (omega (arith, sizes-length v)) in
          let ew = past_more (sizes w) at n (omega (arith, sizes-length w)) in
          record {
            words =
                ev ∙ ap (λ s. s + past n (drop (at + s) (sizes v))) k.same ∙ ap (λ s. get_or (sizes w) at 0 + s) r.words
                ∙ sym ew;
            lands = λ i. omega (arith, r.lands (omega arith));
          }
      | inr h ↦
          let ev = past-none (sizes v) at (suc n) (omega (arith, sizes-length v)) in
          let ew = past-none (sizes w) at (suc n) (omega (arith, sizes-length w)) in
          record { words = ev ∙ sym ew; lands = λ i. omega (arith, o (omega arith)) }
    ]

    by_word : (at : ℕ) → at < place → ((n : ℕ) → RowKept n (suc at)) → Kept at
    by_word at h f =
        let e = before at h in
        let sv = sizes-at v at (omega arith) in
        let sw = sizes-at w at (omega arith) in
        let r = f (count_of (kind_at w at) (payload_at w at)) in
        record {
          same =
              sv
              ∙ ap₂ (λ k p. suc (past (count_of k p) (drop (suc at) (sizes v)))) (rw e refl) (rw e refl)
              ∙ ap suc r.words ∙ sym sw;
          lands = λ l. omega (arith, r.lands (omega arith));
        }

    kept_from : (at : ℕ) → place ≤ at → Outside at → Kept at
    kept_from at h o = elim (lt_or_le place at) [
      | inl i ↦ kept-behind at (o i)
      | inr i ↦ subst (λ j. Kept j) (omega arith) kept-place
    ]

    -- a place that is at most n words before the part, or not before it
    kept : (n at : ℕ) → place ≤ n + at → Outside at → Kept at
    kept zero at l o = kept_from at (omega arith) o
    kept (suc n) at l o = elim (lt_or_le at place) [
      | inl i ↦
          by_word at i λ c.
          row_kept {from = suc at} (λ j m q. kept n j (omega arith) q) c (suc at) (omega arith) (λ k. omega arith)
      | inr i ↦ kept_from at i o
    ]

    pub sizes-swapped : (at : ℕ) → at < length w → (place < at → to ≤ at) → get_or (sizes v) at 0 ≡ get_or (sizes w) at 0
    sizes-swapped at h o = (kept place at (omega arith) o).same
