-- A table without masks of blocks: the ends of some words, the starts of their programs and the masks of their procedures.
-- Working: `marked-file` of proofs/Tables says that the masks are those of the file that was read, `found_none` that refusal 7 is all that
-- is left. Assumes nothing.
--     Marked      such a table of words that refusals 2 to 6 and 16 let pass
--     StartsKept, Steadied
--                 the starts are as they were; refusal 7 of such words
--     ReadMarked    refusals 2 to 7 and 16: the places, and the table
--     Unchanged, MayChange, Stays
--                 what a command modifies stays where words from a place up to another change; it may change; the masks of procedures stay
--     SameBehind      two lists have the same numbers behind so many
--     CanMendTable, TableMended
--                 the table is that of other words, which differ between two places; it is made that of these
--     AssignsAny     a word assigns an identifier of a mask
use Rattle.std.specs.Prelude.{◌≡◌, Bool, true, false, List, ◌⊎◌, ℕ, ◌+◌, ◌<◌, ◌≤◌, length, get_or, Ok}
use Rattle.std.proofs.Math.Option.{none}
use Rattle.layout.specs.Bytes.{word_count}
use Rattle.layout.specs.Reading.{read, first_place}
use Rattle.layout.specs.Call.{wrong_call}
use Rattle.layout.specs.File.{File, words_read}
use Rattle.ends.specs.Mask.{bit}
use Rattle.ends.specs.Blocks.{written, if_any}
use Rattle.ends.specs.Sizes.{sizes}
use Rattle.ends.specs.Ends.{EndsListed}
use Rattle.ends.specs.Places.{end_at}
use Rattle.ends.specs.Procedures.{start_at}
use Rattle.scan.specs.Programs.{procedure_count, StartsListed, MaskMade}
use Rattle.scan.specs.Steady.{MaskedFile}
use Rattle.file.specs.Found.{CallsRight, TableRoom}
use Rattle.context.specs.Contexts.{limits_of}
use Rattle.context.specs.declared.Context.{Context}
use Rattle.reader.specs.File.{places_of, read_of}
use Rattle.reader.specs.declared.Places.{Places}
use Rattle.reader.specs.Program.{Layout}

pub record Marked (file : List ℕ) (Γ : Context) (s : Places) (table : List ℕ) : Type 0 where
  pub listed : EndsListed file table
  pub found : Ok s ≡ places_of (read_of (limits_of Γ) file)
  pub starts : (f : File) (p : ℕ) → read_of (limits_of Γ) file ≡ read f p → StartsListed file table f
  pub called : (f : File) (p : ℕ) → read_of (limits_of Γ) file ≡ read f p →
      first_place (wrong_call file f.procedures) (word_count file) 0 ≡ none
  pub made : (i : ℕ) → i < procedure_count file → MaskMade file table i

pub record StartsKept (file before after : List ℕ) : Type 0 where
  pub kept : (i : ℕ) → i ≤ 16 → start_at file after i ≡ start_at file before i

pub record Steadied (file : List ℕ) (Γ : Context) (s : Places) (r : Layout) (before after : List ℕ) : Type 0 where
  pub layout : r ≡ places_of (words_read (limits_of Γ) file)
  pub marked : Marked file Γ s after
  pub starts : StartsKept file before after

pub record ReadMarked (file : List ℕ) (Γ : Context) (r : Layout) (table : List ℕ) : Type 0 where
  pub layout : r ≡ places_of (words_read (limits_of Γ) file)
  pub listed : (s : Places) → r ≡ Ok s → EndsListed file table
  pub masked : (f : File) (p : ℕ) → words_read (limits_of Γ) file ≡ read f p → MaskedFile file table (limits_of Γ) f

-- a command from `start` up to `past`: its first word is not behind the first of the words and before `to`, and unless they assign the same
-- it has none of them
pub record Unchanged (start past from to : ℕ) (same : Bool) : Type 0 where
  pub outside : from < start → to ≤ start
  pub apart : same ≡ false → (past ≤ from) ⊎ (to ≤ start)

pub record MayChange (start past from to : ℕ) (same r : Bool) : Type 0 where
  pub unchanged : r ≡ false → Unchanged start past from to same

pub record Stays (file table : List ℕ) (from to : ℕ) (same r : Bool) : Type 0 where
  pub each : r ≡ true → (i : ℕ) → i < procedure_count file →
      Unchanged (start_at file table i) (end_at table (start_at file table i)) from to same

pub record SameBehind (n : ℕ) (l m : List ℕ) : Type 0 where
  pub same_length : length m ≡ length l
  pub behind : (at : ℕ) → n ≤ at → get_or m at 0 ≡ get_or l at 0

-- the ends outside are right; where `stay` is so, the masks of the procedures are
pub record CanMendTable (file : List ℕ) (Γ : Context) (s : Places) (table : List ℕ) (from to : ℕ) (stay : Bool) : Type 0 where
  pub right : CallsRight file Γ s table
  pub room : TableRoom file table
  pub order : from ≤ to
  pub inside : to ≤ length file
  pub outside : (at : ℕ) → at < length file → (from ≤ at → to ≤ at) → get_or table at 0 ≡ at + get_or (sizes file) at 0
  pub stays : stay ≡ true → (after : List ℕ) → EndsListed file after → SameBehind (length file) table after →
      (i : ℕ) → i < procedure_count file → MaskMade file after i

pub record TableMended (file : List ℕ) (Γ : Context) (s : Places) (before after : List ℕ) (stay : Bool) : Type 0 where
  pub marked : Marked file Γ s after
  pub kept : stay ≡ true → SameBehind (length file) before after

-- what a word of this kind and payload assigns is among the bits of a mask
pub record AssignsAny (mask k p : ℕ) (r : Bool) : Type 0 where
  pub none : r ≡ false → (called : ℕ → ℕ) (i : ℕ) → if_any (λ n. bit n i) (written called k p) ≡ true → bit mask i ≡ true → ⊥
