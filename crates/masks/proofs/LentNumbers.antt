-- What is claimed of the lent numbers holds.
-- Assumes nothing.
--     outside-lent, few-lent, enough-lent    refusals 19 and 17, and neither
--     lent-numbers                           the claim
use mathlib.Core.Path.{◌≡◌, refl, ap, ◌∙◌}
use mathlib.Core.Bool.{Bool, true, false}
use mathlib.Core.List.{List}
use Prim.Native.Nat.{ℕ, ◌≤◌}
use native.Mathlib.Omega.{arith}
use lib.ListN.{length, get_or}
use Rattle.rules.specs.Context.{Limits, within_ranges}
use Rattle.layout.specs.Bytes.{words_of, word_count}
use Rattle.layout.specs.Reading.{Reading, read, fault}
use Rattle.layout.specs.File.{File, bytes_read}
use Rattle.masks.specs.WithMasks.{few_numbers, read_lent, stored_if}
use Rattle.masks.specs.LentNumbers.{LentNumbers}
use Rattle.masks.proofs.FewNumbers.{read-enough}
use Rattle.masks.proofs.StoredList.{stored-length, stored-mask, stored_past}

module _ (limits : Limits) (bytes : List ℕ) (n : ℕ) where
  pub outside-lent : within_ranges limits ≡ false → read_lent limits bytes n ≡ fault 19 0
  unfolding read_lent
  outside-lent h = rw (h, read_lent) refl

  pub few-lent : within_ranges limits ≡ true → few_numbers bytes n ≡ true → read_lent limits bytes n ≡ fault 17 0
  unfolding read_lent
  few-lent h k = rw (h, read_lent) (rw k refl)

  pub enough-lent : within_ranges limits ≡ true → few_numbers bytes n ≡ false → read_lent limits bytes n ≡ bytes_read limits bytes
  unfolding read_lent
  enough-lent h k = rw (h, read_lent) (rw k refl)

module _ (limits : Limits) (bytes lent : List ℕ) where
  -- where the file is read, there are as many numbers as words
  lent-enough : (f : File) (p : ℕ) → read_lent limits bytes (length lent) ≡ read f p → word_count (words_of bytes) ≤ length lent
  unfolding read_lent
  lent-enough f p e = go (within_ranges limits) (few_numbers bytes (length lent)) refl e
    where
      go : (a b : Bool) → few_numbers bytes (length lent) ≡ b →
          elim a [ true ↦ elim b [ true ↦ fault 17 0 | false ↦ bytes_read limits bytes ] | false ↦ fault 19 0 ] ≡ read f p →
          word_count (words_of bytes) ≤ length lent
      go false b h k = absurd (let z : ◌≡◌ {A = ℕ} 0 1 = cc in omega arith)
      go true true h k = absurd (let z : ◌≡◌ {A = ℕ} 0 1 = cc in omega arith)
      go true false h k = read-enough limits bytes k (length lent) h

  abbrev After : Reading File → List ℕ
  After x = stored_if limits (words_of bytes) x lent

  pub lent-numbers : LentNumbers limits bytes lent
  lent-numbers = record {
    refused = λ n p e. ap After e;
    mask = λ f p i e l. ap (λ x. get_or (After x) i 0) e ∙ stored-mask limits (words_of bytes) f lent i l;
    past = λ i l. by-past i l (read_lent limits bytes (length lent));
    count = by_count (read_lent limits bytes (length lent)) refl;
  }
    where
      by-past : (i : ℕ) → word_count (words_of bytes) ≤ i → (x : Reading File) → get_or (After x) i 0 ≡ get_or lent i 0
      by-past i l (read f p) = stored_past limits (words_of bytes) f lent i l
      by-past i l (fault n p) = refl

      by_count : (x : Reading File) → read_lent limits bytes (length lent) ≡ x → length (After x) ≡ length lent
      by_count (read f p) e = stored-length limits (words_of bytes) f lent (lent-enough f p e)
      by_count (fault n p) e = refl
