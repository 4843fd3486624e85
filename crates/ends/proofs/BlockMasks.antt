-- Masks of blocks, written from the first block to the last; a mask of a range by its blocks.
-- Assumes nothing.
--     Blocking                     the masks of the blocks before one are written
--     blocking_more, blocking_all  after a turn; after the last
--     joined-none, joined-more     the masks of no blocks; of some and one more
--     between                      the words before the blocks, the blocks, the words after them
use mathlib.Core.Path.{◌≡◌, sym, ap₂, subst, ◌∙◌}
use mathlib.Core.List.{List}
use mathlib.Core.Logic.{inl, inr}
use Prim.Native.Nat.{ℕ, ◌+◌, ◌-◌, ◌*◌, ◌/◌, ◌<◌, ◌≤◌}
use native.Mathlib.Omega.{arith}
use lib.Bits.{bit_or}
use lib.ListN.{length, get_or}
use Rattle.ends.specs.Blocks.{table_at, called_mask, marks_in, Marks, block_at, Blocks, CanBlock, Blocked}
use Rattle.ends.proofs.Sizes.{lt_or_le}
use Rattle.ends.proofs.Put.{put, put-length, put_other, put-block, put-before}
use Rattle.ends.proofs.Marks.{marks-range, marks-empty, marks-join, called_same}

module _ (file before : List ℕ) where
  pub record Blocking (ends : List ℕ) (i : ℕ) : Type 0 where
    pub same_length : length ends ≡ length before
    pub kept : (at : ℕ) → at < length file → get_or ends at 0 ≡ get_or before at 0
    pub rest-kept : (at : ℕ) → table_at file ≤ at → get_or ends at 0 ≡ get_or before at 0
    pub done : (b : ℕ) → b < i → Marks (called_mask file before) file 32 (32 * b) (block_at ends (length file + 2 * b))

  pub blocking_all : {ends : List ℕ} {i : ℕ} → CanBlock file before → length file / 32 ≤ i → Blocking ends i →
      Blocked file before ends
  blocking_all {ends} can h m = record {
    same_length = m.same_length;
    kept = m.kept;
    rest-kept = m.rest-kept;
    blocks = record {
      room = omega (arith, can.room, m.same_length);
      block = λ b l.
          subst (λ t. Marks t file 32 (32 * b) (block_at ends (length file + 2 * b))) (sym (called_same file ends before m.rest-kept))
          (m.done b (omega arith));
    };
  }

  module _ (can : CanBlock file before) {ends : List ℕ} {i : ℕ} (m : Blocking ends i) (more : i < length file / 32) where
    abbrev place : ℕ
    place = length file + 2 * i

    written : (v : ℕ) → Marks (called_mask file before) file 32 (32 * i) v → Blocking (put ends place v) (i + 1)
    written v e = record {
      same_length = put-length ends place v ∙ m.same_length;
      kept = λ at h. put_other ends place v at (λ f. omega arith) (λ f. omega arith) ∙ m.kept at h;
      rest-kept = λ at h. put_other ends place v at (λ f. omega arith) (λ f. omega arith) ∙ m.rest-kept at h;
      done = λ b h. elim (lt_or_le b i) [
        | inl l ↦
            subst (Marks (called_mask file before) file 32 (32 * b))
            (sym (put-before ends place v (length file + 2 * b) (omega arith))) (m.done b l)
        | inr l ↦
            let same : i ≡ b = omega arith in
            subst (λ j. Marks (called_mask file before) file 32 (32 * j) (block_at (put ends place v) (length file + 2 * j))) same
            (subst (Marks (called_mask file before) file 32 (32 * i))
            (sym (put-block ends place v (omega (arith, m.same_length, can.room)))) e)
      ];
    }

    pub blocking_more : {v : ℕ} {l : List ℕ} →
        v ≡ marks_in (called_mask file ends) file (32 * i + 32 - 32 * i) (32 * i) 0 → l ≡ put ends place v →
        Blocking l (i + 1)
    blocking_more {v} e f =
        let n : 32 * i + 32 - 32 * i ≡ 32 = omega arith in
        subst (λ l. Blocking l (i + 1)) (sym f)
        (written v
        (marks-range file (e ∙ ap₂ (λ t k. marks_in t file k (32 * i) 0) (called_same file ends before m.rest-kept) n)))

module _ {file ends : List ℕ} (h : Blocks file ends) where
  pub joined-none : (a : ℕ) → Marks (called_mask file ends) file (32 * (a - a)) (32 * a) 0
  joined-none a =
      let e : 0 ≡ 32 * (a - a) = omega arith in
      subst (λ n. Marks (called_mask file ends) file n (32 * a) 0) e (marks-empty file (32 * a))

  pub joined-more : {a i m v : ℕ} → a ≤ i → i < length file / 32 →
      Marks (called_mask file ends) file (32 * (i - a)) (32 * a) m → v ≡ block_at ends (length file + 2 * i) →
      Marks (called_mask file ends) file (32 * (i + 1 - a)) (32 * a) (bit_or m v)
  joined-more {a} {i} {m} {v} l k n e =
      let p : 32 * i ≡ 32 * a + 32 * (i - a) = omega arith in
      let q : 32 * (i - a) + 32 ≡ 32 * (i + 1 - a) = omega arith in
      let called = called_mask file ends in
      subst (λ c. Marks called file c (32 * a) (bit_or m v)) q
      (marks-join file n
      (subst (λ s. Marks called file 32 s v) p (subst (Marks called file 32 (32 * i)) (sym e) (h.block i k))))

module _ {called : ℕ → ℕ} {file : List ℕ} where
  pub between : {from to a b x y z : ℕ} → from ≤ 32 * a → a ≤ b → 32 * b ≤ to →
      Marks called file (32 * a - from) from x → Marks called file (32 * (b - a)) (32 * a) y →
      Marks called file (to - 32 * b) (32 * b) z → Marks called file (to - from) from (bit_or (bit_or x y) z)
  between {from} {to} {a} {b} {x} {y} {z} h k l m n o =
      let p : 32 * a ≡ from + (32 * a - from) = omega arith in
      let q : 32 * b ≡ from + (32 * a - from + 32 * (b - a)) = omega arith in
      let r : 32 * a - from + 32 * (b - a) + (to - 32 * b) ≡ to - from = omega arith in
      subst (λ c. Marks called file c from (bit_or (bit_or x y) z)) r
      (marks-join file (marks-join file m (subst (λ s. Marks called file (32 * (b - a)) s y) p n))
      (subst (λ s. Marks called file (to - 32 * b) s z) q o))
