-- Ends of some words written anew, from the last of these words to the first.
-- Assumes nothing.
--     Mending                  the ends of the words from a place on are written
--     mending_more             after a turn
--     mending_end              what a turn writes, and that it goes no further than the last word
use mathlib.Core.Path.{◌≡◌, ◌∙◌}
use mathlib.Core.Logic.{inl, inr}
use mathlib.Core.List.{List}
use Prim.Native.Nat.{ℕ, ◌+◌, ◌-◌, ◌<◌, ◌≤◌}
use native.Mathlib.Omega.{arith}
use lib.ListN.{length, get_or, set, length-set}
use lib.Seq.{get_or-set_same, get_or-set_other}
use Rattle.layout.specs.Bytes.{kind_at, payload_at}
use Rattle.layout.specs.Nodes.{count_of}
use Rattle.ends.specs.Sizes.{sizes, follow}
use Rattle.ends.specs.Mend.{CanMend}
use Rattle.ends.proofs.Sizes.{lt_or_le, Ended, follow-end}

module _ (file before : List ℕ) (from to : ℕ) where
  pub record Mending (ends : List ℕ) (i : ℕ) : Type 0 where
    pub low : from ≤ i
    pub high : i ≤ to
    pub same_length : length ends ≡ length before
    pub ended : Ended file ends i
    pub kept-before : (at : ℕ) → at < i → get_or ends at 0 ≡ get_or before at 0
    pub kept-behind : (at : ℕ) → to ≤ at → get_or ends at 0 ≡ get_or before at 0

  module _ (can : CanMend file before from to) where
    pub mending_more : (ends : List ℕ) (i v : ℕ) → from < i → Mending ends i → v ≡ i - 1 + get_or (sizes file) (i - 1) 0 →
        Mending (set ends (i - 1) v) (i - 1)
    mending_more ends i v l m e = record {
      low = omega arith;
      high = omega (arith, m.high);
      same_length = length-set ends (i - 1) v ∙ m.same_length;
      ended = ended;
      kept-before = λ at h. other at (λ z. omega arith) ∙ m.kept-before at (omega arith);
      kept-behind = λ at h. other at (λ z. omega (arith, m.high)) ∙ m.kept-behind at h;
    }
      where
        other : (at : ℕ) → (at ≡ i - 1 → ⊥) → get_or (set ends (i - 1) v) at 0 ≡ get_or ends at 0
        other at h = get_or-set_other ends (i - 1) at v 0 h

        written : (at : ℕ) → at ≡ i - 1 → get_or (set ends (i - 1) v) at 0 ≡ at + get_or (sizes file) at 0
        written at z =
            rw z (get_or-set_same ends (i - 1) v 0 (omega (arith, m.high, m.same_length, can.inside, can.long)) ∙ e)

        ended : Ended file (set ends (i - 1) v) (i - 1)
        ended at a b = elim (lt_or_le at i) [
          | inl h ↦ written at (omega arith)
          | inr h ↦ other at (λ z. omega arith) ∙ m.ended at h b
        ]

    pub mending_end : (ends : List ℕ) (i n : ℕ) → from < i → Mending ends i →
        n ≡ count_of (kind_at file (i - 1)) (payload_at file (i - 1)) →
        (follow ends (length file) n (i - 1 + 1) ≡ i - 1 + get_or (sizes file) (i - 1) 0)
        × (follow ends (length file) n (i - 1 + 1) ≤ length file)
    mending_end ends i n l m e =
        follow-end file ends i m.ended (i - 1) n (omega arith) (omega (arith, m.high, can.inside)) e
