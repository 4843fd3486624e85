-- What refusals 1 to 7 and 16 leave of a file: its words, their table and the places of its parts (document 01, "Judging order";
-- document 02, request [3]).
-- Working: `steady-tabled`, `refused-tabled` and `loaded-file` of proofs/Files tie it to the layout's `words_read` and `bytes_read`.
-- Assumes nothing.
--     TableRoom, Found     room for the table of some words; what refusals 2 to 6 leave of words that they let pass
--     CallsRight, Called   the same with refusal 16; refusals 2 to 6 and 16
--     TableMade            the table is filled: ends, masks of procedures, masks of blocks
--     KnownAt              what the table has of each program
--     Tabled               refusals 2 to 7 and 16: the places, and the table
--     CanLoad, FileRead    room for the words and the table of a file; refusals 1 to 7 and 16, of bytes
use Rattle.std.specs.Prelude.{◌≡◌, false, List, ℕ, ◌+◌, ◌*◌, ◌/◌, ◌<◌, ◌≤◌, length, take, Ok, Err}
use Rattle.std.proofs.Math.Option.{none}
use Rattle.rules.specs.Context.{Limits, alone}
use Rattle.layout.specs.Bytes.{words_of, word_count}
use Rattle.layout.specs.Reading.{read, fault, first_place}
use Rattle.layout.specs.File.{File, bad_length, words_read, bytes_read}
use Rattle.layout.specs.Before.{context_before}
use Rattle.ends.specs.Ends.{EndsOf}
use Rattle.ends.specs.Blocks.{table_at}
use Rattle.ends.specs.Procedures.{start_at, Procedures}
use Rattle.scan.specs.Programs.{procedure_count, StartsListed, MaskMade}
use Rattle.scan.specs.Calls.{wrong_at}
use Rattle.scan.specs.Steady.{MaskedFile}
use Rattle.context.specs.Contexts.{limits_of}
use Rattle.reader.specs.Program.{Layout}
use Rattle.reader.specs.File.{places_of, read_of}
use Rattle.context.specs.declared.Context.{Context}
use Rattle.context.specs.declared.Refusal.{Refusal}
use Rattle.reader.specs.declared.Places.{Places}

pub record TableRoom (file table : List ℕ) : Type 0 where
  pub size : length file ≤ 8192
  pub room : table_at file + 49 ≤ length table

-- the starts of the programs are in the table
pub record Found (file : List ℕ) (Γ : Context) (s : Places) (table : List ℕ) : Type 0 where
  pub found : Ok s ≡ places_of (read_of (limits_of Γ) file)
  pub starts : (f : File) (p : ℕ) → read_of (limits_of Γ) file ≡ read f p → StartsListed file table f

-- no call is wrong, on words
pub record CallsRight (file : List ℕ) (Γ : Context) (s : Places) (table : List ℕ) : Type 0 where
  pub found : Found file Γ s table
  pub right : first_place (wrong_at file table) (word_count file) 0 ≡ none

pub record Called (file : List ℕ) (Γ : Context) (r : Layout) (table : List ℕ) : Type 0 where
  pub refused : (x : Refusal) → r ≡ Err x → words_read (limits_of Γ) file ≡ fault x.number x.place
  pub right : (s : Places) → r ≡ Ok s → CallsRight file Γ s table

-- the starts are as they were
pub record TableMade (file before after : List ℕ) : Type 0 where
  pub ends_of : EndsOf file after
  pub starts : (i : ℕ) → i ≤ 16 → start_at file after i ≡ start_at file before i
  pub made : (i : ℕ) → i < procedure_count file → MaskMade file after i

-- program i follows i procedures, and is read and judged under these
pub record KnownAt (limits : Limits) (file table : List ℕ) (f : File) : Type 0 where
  pub starts : StartsListed file table f
  pub masked : MaskedFile file table limits f
  pub procedures : limits.depth ≤ 256 → (i : ℕ) → i ≤ length f.procedures →
      Procedures file table (context_before (alone limits) file i 2)

pub record Tabled (file : List ℕ) (Γ : Context) (r : Layout) (table : List ℕ) : Type 0 where
  pub layout : r ≡ places_of (words_read (limits_of Γ) file)
  pub ends_of : (s : Places) → r ≡ Ok s → EndsOf file table
  pub known : (f : File) (p : ℕ) → words_read (limits_of Γ) file ≡ read f p → KnownAt (limits_of Γ) file table f

pub record CanLoad (bytes words table : List ℕ) : Type 0 where
  pub fits : bad_length bytes ≡ false → length bytes ≤ 4 * length words
  pub wide : length words + 2 * (length words / 32) + 49 ≤ length table

-- the words stand in front of the room that was lent for them
pub record FileRead (bytes : List ℕ) (Γ : Context) (r : Layout) (words table : List ℕ) : Type 0 where
  pub layout : r ≡ places_of (bytes_read (limits_of Γ) bytes)
  pub size : (s : Places) → r ≡ Ok s → length bytes ≤ 32768
  pub from-words : (s : Places) → r ≡ Ok s →
      bytes_read (limits_of Γ) bytes ≡ words_read (limits_of Γ) (words_of bytes)
  pub loaded : (s : Places) → r ≡ Ok s → take (length bytes / 4) words ≡ words_of bytes
  pub inside : (s : Places) → r ≡ Ok s → length bytes / 4 ≤ length words
  pub ends_of : (s : Places) → r ≡ Ok s → EndsOf (words_of bytes) table
  pub known : (f : File) (p : ℕ) → bytes_read (limits_of Γ) bytes ≡ read f p → KnownAt (limits_of Γ) (words_of bytes) table f
