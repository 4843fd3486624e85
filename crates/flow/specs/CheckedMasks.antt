-- What the check with masks and the workbench call promise under settings (document 02, requests [5] and [6]).
-- Trusted. Assumes nothing.
--     lent_before             what was read before request [6]
--     CheckedMasks           the check with masks: its answer, the lent numbers afterwards, and what "accepted" means
--     PackedMasks            the same for C
--     PutUnder               the workbench call
--     packed_put, PackedPut   the same for C: 0, or number × 65,536 + place; the file and the lent numbers afterwards
use Rattle.std.specs.Prelude.{◌≡◌, true, false, ◌&&◌, List, ℕ, ◌+◌, ◌*◌, length, Ok}
use Rattle.rules.specs.Context.{Limits, standard, within_ranges}
use Rattle.rules.specs.Judge as judge
use Rattle.layout.specs.Bytes.{words_of}
use Rattle.layout.specs.Reading.{Reading, read, fault}
use Rattle.layout.specs.File.{File, bytes_read}
use Rattle.layout.specs.Verdict.{verdict_of, packed}
use Rattle.claims.specs.Check.{Demand2, Demand3}
use Rattle.claims.specs.Settings.{Raises, Stays}
use Rattle.masks.specs.Masks.{stored}
use Rattle.masks.specs.LentNumbers.{LentNumbers}
use Rattle.masks.specs.WithMasks.{few_numbers, read_lent, verdict_lent, stored_if, masks_after}
use Rattle.replacement.specs.Put.{Replaced, changed, read_put, file_after, PutDone}
use Rattle.flow.specs.Checked.{Verdict, answer_of}

-- refusals 1, 2, 17, 3 to 7 and 16 as they were before there was a refusal 19
abbrev pub lent_before : List ℕ → ℕ → Reading File
lent_before bytes n = elim (few_numbers bytes n) [ true ↦ fault 17 0 | false ↦ bytes_read standard bytes ]

pub record CheckedMasks (limits : Limits) (bytes lent : List ℕ) (r : Verdict) (left : List ℕ) : Type 0 where
  pub answer : r ≡ answer_of (verdict_lent limits bytes (length lent))
  pub masks : left ≡ masks_after limits bytes lent
  -- what the request says of these
  pub numbers : LentNumbers limits bytes lent
  -- but for 17, the answer is that without masks
  pub as_without : (within_ranges limits && few_numbers bytes (length lent)) ≡ false → r ≡ answer_of (verdict_of limits bytes)
  -- what is accepted with masks is accepted without, of which demands 2 and 3 speak
  pub accepted-without : (n : ℕ) → r ≡ Ok n → verdict_of limits bytes ≡ judge.accepted n
  pub exact : Demand2 limits bytes
  pub secure : Demand3 limits bytes
  -- document 01's limits give the answer from before request [6]
  pub old-answers : read_lent standard bytes (length lent) ≡ lent_before bytes (length lent)
  -- raised settings: an acceptance stays, with its count, and so does every refusal but 4, 9 and the 5 of a set's count
  pub accepted-raised : (high : Limits) → Raises limits high → (n : ℕ) → verdict_lent limits bytes (length lent) ≡ judge.accepted n →
      verdict_lent high bytes (length lent) ≡ judge.accepted n
  pub refused-raised : (high : Limits) → Raises limits high → (k p : ℕ) → verdict_lent limits bytes (length lent) ≡ judge.refused k p →
      Stays limits bytes k p → verdict_lent high bytes (length lent) ≡ judge.refused k p
  -- and so do the masks of a file that is read
  pub masks-raised : (high : Limits) → Raises limits high → (f : File) (p : ℕ) → read_lent limits bytes (length lent) ≡ read f p →
      masks_after high bytes lent ≡ masks_after limits bytes lent

pub record PackedMasks (limits : Limits) (bytes lent : List ℕ) (r : ℕ) (left : List ℕ) : Type 0 where
  pub answer : r ≡ packed (verdict_lent limits bytes (length lent))
  pub masks : left ≡ masks_after limits bytes lent

abbrev pub packed_put : Reading File → ℕ
packed_put (read f p) = 0
packed_put (fault n p) = n * 65536 + p

pub record PutUnder (limits : Limits) (bytes lent : List ℕ) (place : ℕ) (new : List ℕ) (r : Replaced) (left numbers : List ℕ) : Type 0 where
  pub done : PutDone limits bytes lent place new r left numbers
  pub old-answers : read_lent standard bytes (length lent) ≡ lent_before bytes (length lent)
  -- what is put is put under raised settings, with the same changed file and masks
  pub raised : (high : Limits) → Raises limits high → (f : File) (p : ℕ) → read_put limits bytes (length lent) place new ≡ read f p →
      read_put high bytes (length lent) place new ≡ read f p
  pub masks-raised : (high : Limits) → Raises limits high → (f : File) (p : ℕ) → read_put limits bytes (length lent) place new ≡ read f p →
      stored high (words_of (changed bytes place new)) f lent ≡ stored limits (words_of (changed bytes place new)) f lent
  -- the file's own refusals stay but 4 and the 5 of a set's count; an 18 may go, since the changed file may be read then
  pub refused-raised : (high : Limits) → Raises limits high → (k p : ℕ) → read_put limits bytes (length lent) place new ≡ fault k p →
      (k ≡ 18 → ⊥) → Stays limits bytes k p → read_put high bytes (length lent) place new ≡ fault k p

pub record PackedPut (limits : Limits) (bytes lent : List ℕ) (place : ℕ) (new : List ℕ) (r : ℕ) (left numbers : List ℕ) : Type 0 where
  pub answer : r ≡ packed_put (read_put limits bytes (length lent) place new)
  pub file : left ≡ file_after (read_put limits bytes (length lent) place new) bytes (changed bytes place new)
  pub masks : numbers ≡ stored_if limits (words_of (changed bytes place new)) (read_put limits bytes (length lent) place new) lent
