-- What request [5] of document 02 says of the lent numbers, claimed of the definitions.
-- Trusted. Assumes nothing.
--     LentNumbers    a call refused at reading or as 17 or 19 changes none; where the file is read, each word has its mask, and those past the
--                    words stay; there are as many as before
use Rattle.std.specs.Prelude.{◌≡◌, List, ℕ, ◌<◌, ◌≤◌, length, get_or}
use Rattle.rules.specs.Context.{Limits}
use Rattle.layout.specs.Bytes.{words_of, word_count}
use Rattle.layout.specs.Reading.{read, fault}
use Rattle.layout.specs.File.{File}
use Rattle.masks.specs.Masks.{mask_at}
use Rattle.masks.specs.WithMasks.{read_lent, masks_after}

pub record LentNumbers (limits : Limits) (bytes lent : List ℕ) : Type 0 where
  pub refused : (n p : ℕ) → read_lent limits bytes (length lent) ≡ fault n p → masks_after limits bytes lent ≡ lent
  pub mask : (f : File) (p i : ℕ) → read_lent limits bytes (length lent) ≡ read f p → i < word_count (words_of bytes) →
      get_or (masks_after limits bytes lent) i 0 ≡ mask_at limits (words_of bytes) f i
  pub past : (i : ℕ) → word_count (words_of bytes) ≤ i → get_or (masks_after limits bytes lent) i 0 ≡ get_or lent i 0
  pub count : length (masks_after limits bytes lent) ≡ length lent
