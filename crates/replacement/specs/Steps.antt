-- What the steps of the workbench call ask for, after refusal 19.
-- Working: `can-replace` of proofs/PutReads, `can-change` and `can-finish` of proofs/Puts say that what is read meets them, `finish-done` that
-- `PutDone` follows. Assumes nothing.
--     OldRead       a file was read under settings in range, and enough numbers are lent
--     Simple        at the place stands a skip, an assert or an assignment as long as the new bytes
--     CanChange     the words of the file are changed
--     CanFinish     the new command is one, the changed file was read, and its table is there
--     CanRead       refusals 2 to 6 and 16 let its words pass
--     CanReplace    so does 7; its words and their table are there, and what is known of its `for`s
--     CanSettle     the new command is one, and what refusals 2 to 7 and 16 leave of the changed words is known
use Rattle.std.specs.Prelude.{◌≡◌, Bool, true, false, List, ℕ, ◌+◌, ◌*◌, ◌/◌, ◌%◌, ◌≤◌, length, Ok}
use Rattle.rules.specs.Context.{Limits, within_ranges, alone}
use Rattle.layout.specs.Bytes.{words_of}
use Rattle.layout.specs.Reading.{read}
use Rattle.layout.specs.Read.{command}
use Rattle.layout.specs.File.{File, bytes_read, words_read}
use Rattle.ends.specs.Ends.{EndsListed}
use Rattle.scan.specs.Steady.{MaskedFile}
use Rattle.scan.specs.ForsMask.{ForsFound}
use Rattle.scan.specs.declared.for_mask.Fors.{Fors}
use Rattle.masks.specs.Masks.{command_at}
use Rattle.masks.specs.WithMasks.{few_numbers}
use Rattle.context.specs.Contexts.{limits_of, Settable}
use Rattle.context.specs.declared.Context.{Context}
use Rattle.reader.specs.File.{places_of}
use Rattle.reader.specs.declared.Places.{Places}
use Rattle.reader.specs.Program.{Layout}
use Rattle.file.specs.Found.{CallsRight}
use Rattle.splice.specs.Simple.{simple_to}
use Rattle.splice.specs.SimpleWords.{read_to}
use Rattle.splice.specs.Walk.{Rooms, CanWalk, ChangedRight}
use Rattle.changed_file.specs.Tables.{Marked, ReadMarked}
use Rattle.replacement.specs.Put.{changed}

-- n numbers are lent
module _ (limits : Limits) (bytes : List ℕ) (n : ℕ) where
  pub record OldRead : Type 0 where
    pub contents : File
    pub end : ℕ
    pub was_read : bytes_read limits bytes ≡ read contents end
    pub settable : within_ranges limits ≡ true
    pub enough : few_numbers bytes n ≡ false

  module _ (place : ℕ) (new : List ℕ) where
    pub record Simple : Type 0 where
      pub old : OldRead
      pub words : length new % 4 ≡ 0
      pub within : 4 * place + length new ≤ length bytes
      pub simple : simple_to (command_at limits (words_of bytes) old.contents place) (place + length new / 4) ≡ true

    pub record CanChange (w table : List ℕ) : Type 0 where
      pub simple : Simple
      pub loaded : w ≡ words_of (changed bytes place new)
      pub wide : length w + 2 * (length w / 32) + 49 ≤ length table

    pub record CanFinish (w table : List ℕ) : Type 0 where
      pub simple : Simple
      pub loaded : w ≡ words_of (changed bytes place new)
      pub new-simple : simple_to (command (alone limits) (words_of new) limits.depth 0) (length new / 4) ≡ true
      pub contents : File
      pub end : ℕ
      pub was_read : words_read limits w ≡ read contents end
      pub listed : EndsListed w table
      pub masked : MaskedFile w table limits contents

-- s are the places of the file's parts; `both`: refusals 2 to 6 and 16 let the changed words pass too
module _ (Γ : Context) (bytes : List ℕ) (n place : ℕ) (new words table : List ℕ) (s : Places) (both : Bool) where
  pub record CanRead : Type 0 where
    pub settable : Settable Γ
    pub enough : few_numbers bytes n ≡ false
    pub walk : CanWalk bytes words table
    pub right : CallsRight (words_of bytes) Γ s table
    pub new-right : both ≡ true → ChangedRight Γ bytes place new s table

  pub record CanReplace (fors : Fors) : Type 0 where
    pub old : OldRead (limits_of Γ) bytes n
    pub rooms : Rooms bytes words table
    pub marked : Marked (words_of bytes) Γ s table
    pub masked : MaskedFile (words_of bytes) table (limits_of Γ) old.contents
    pub was_read : Ok s ≡ places_of (words_read (limits_of Γ) (words_of bytes))
    pub fors_of : ForsFound (words_of bytes) fors
    pub new-right : both ≡ true → ChangedRight Γ bytes place new s table

-- r is what refusals 2 to 7 and 16 leave of the changed words w
pub record CanSettle (Γ : Context) (bytes : List ℕ) (n place : ℕ) (new w table : List ℕ) (r : Layout) : Type 0 where
  pub change : CanChange (limits_of Γ) bytes n place new w table
  pub new-read : read_to w Γ.depth place (place + length new / 4) ≡ true
  pub remarked : ReadMarked w Γ r table
