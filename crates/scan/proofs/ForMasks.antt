-- The mask of the scalars that the `for`s of a file count with, and where the `for`s stand, as a scan finds them.
-- Assumes nothing.
--     ForsBefore            the mask has q and m of each `for` before a place, and none of these stands from another place on
--     fors_past, fors_more  past words of other kinds; past a `for`, whose q and m are put in
use mathlib.Core.Path.{◌≡◌, refl, ap, ◌∙◌}
use mathlib.Core.Bool.{true, ◌||◌, or-true}
use mathlib.Core.List.{List}
use mathlib.Core.Logic.{inl, inr}
use Prim.Native.Nat.{ℕ, ◌+◌, ◌/◌, ◌%◌, ◌^◌, ◌<◌, ◌≤◌}
use native.Mathlib.Omega.{arith}
use borrow.Author.Tests.{eq-eqb}
use lib.Bits.{bit_or}
use Rattle.layout.specs.Bytes.{kind_at, payload_at}
use Rattle.ends.specs.Mask.{bit}
use Rattle.ends.proofs.Bits.{bit-or, bit-power}
use Rattle.ends.proofs.Sizes.{lt_or_le}
use Rattle.scan.specs.Pass.{Passed}

-- a bit that is there stays
kept : (m n i : ℕ) → bit m i ≡ true → bit (bit_or m n) i ≡ true
kept m n i e = bit-or m n i ∙ ap (λ b. b || bit n i) e

-- the bit that is put in
put : (m i : ℕ) → bit (bit_or m (2 ^ i)) i ≡ true
put m i = bit-or m (2 ^ i) i ∙ ap (λ b. bit m i || b) (bit-power i i ∙ eq-eqb i i refl) ∙ or-true (bit m i)

module _ (file : List ℕ) where
  pub record ForsBefore (to mask past : ℕ) : Type 0 where
    pub first : (at : ℕ) → at < to → kind_at file at ≡ 31 → bit mask (payload_at file at % 32) ≡ true
    pub second : (at : ℕ) → at < to → kind_at file at ≡ 31 → bit mask (payload_at file at / 32 % 32) ≡ true
    pub behind : (at : ℕ) → past ≤ at → at < to → kind_at file at ≡ 31 → ⊥

  pub fors_past : {at p mask past : ℕ} → Passed file 31 at p → ForsBefore at mask past → ForsBefore p mask past
  fors_past {at} x b = record {
    first = λ i l e. elim (lt_or_le i at) [ inl h ↦ b.first i h e | inr h ↦ absurd (x.none i h l e) ];
    second = λ i l e. elim (lt_or_le i at) [ inl h ↦ b.second i h e | inr h ↦ absurd (x.none i h l e) ];
    behind = λ i k l e. elim (lt_or_le i at) [ inl h ↦ b.behind i k h e | inr h ↦ x.none i h l e ];
  }

  pub fors_more : {at mask past one two : ℕ} → one ≡ bit_or mask (2 ^ (payload_at file at % 32)) →
      two ≡ bit_or one (2 ^ (payload_at file at / 32 % 32)) → ForsBefore at mask past → ForsBefore (at + 1) two (at + 1)
  fors_more {at} {mask} {one = one} {two} f s b = record {
    first = λ i l e. after (payload_at file i % 32) (elim (lt_or_le i at) [
      | inl h ↦ before (payload_at file i % 32) (b.first i h e)
      | inr h ↦ at_one (payload_at file i % 32) (ap (λ j. payload_at file j % 32) (same i l h))
    ]);
    second = λ i l e. elim (lt_or_le i at) [
      | inl h ↦ after (payload_at file i / 32 % 32) (before (payload_at file i / 32 % 32) (b.second i h e))
      | inr h ↦ at-two (payload_at file i / 32 % 32) (ap (λ j. payload_at file j / 32 % 32) (same i l h))
    ];
    behind = λ i k l e. omega arith;
  }
    where
      same : (i : ℕ) → i < at + 1 → at ≤ i → i ≡ at
      same i l h = omega arith

      before : (i : ℕ) → bit mask i ≡ true → bit one i ≡ true
      before i e = ap (λ m. bit m i) f ∙ kept mask _ i e

      after : (i : ℕ) → bit one i ≡ true → bit two i ≡ true
      after i e = ap (λ m. bit m i) s ∙ kept one _ i e

      at_one : (i : ℕ) → i ≡ payload_at file at % 32 → bit one i ≡ true
      at_one i e = ap (bit one) e ∙ ap (λ m. bit m (payload_at file at % 32)) f ∙ put mask _

      at-two : (i : ℕ) → i ≡ payload_at file at / 32 % 32 → bit two i ≡ true
      at-two i e = ap (bit two) e ∙ ap (λ m. bit m (payload_at file at / 32 % 32)) s ∙ put one _
