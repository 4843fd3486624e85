-- One walk for the file and for the changed one.
-- Working: `file-first` and `old-walked` of proofs/Walks say that what the steps leave meets `WalkedFirst`. Assumes nothing.
--     Rooms                 words and a table in lent room
--     CanWalk               the words of a file are loaded
--     CanPutBack            other words stand from a place up to another
--     NewLoaded, NewRead    the new command's words stand there; it is one, read whole, and r is its extent
--     OldIfRead             the file passes refusals 2 to 6 and 16 if the command at a place is read with so many levels
--     ChangedRight          the new command is one, read whole, and the changed words pass refusals 2 to 6 and 16
--     layout_of             the places, or the refusal
--     WalkedFile            the walk of the file
--     WalkedOld             the same where it may be known to pass: if so, its places are these, and the table stays
--     WalkedFirst           the walk of the file and, if `both`, of the changed words: they pass with the same places and starts
use Rattle.std.specs.Prelude.{◌≡◌, true, false, List, ℕ, ◌+◌, ◌*◌, ◌/◌, ◌<◌, ◌≤◌, length, get_or, take, Result, Ok, Err}
use Rattle.layout.specs.Bytes.{words_of}
use Rattle.layout.specs.File.{bad_length}
use Rattle.context.specs.declared.Context.{Context}
use Rattle.context.specs.declared.Refusal.{Refusal}
use Rattle.reader.specs.declared.Places.{Places}
use Rattle.reader.specs.Program.{Layout}
use Rattle.file.specs.Found.{CallsRight, Called}
use Rattle.splice.specs.Splice.{spliced}
use Rattle.splice.specs.SimpleWords.{read_to}
use Rattle.splice.specs.Extent.{ExtentOf}
use Rattle.splice.specs.declared.extent.Extent.{Extent}
use Rattle.splice.specs.declared.walk.Walked.{Walked}

pub record Rooms (bytes words table : List ℕ) : Type 0 where
  pub loaded : take (length bytes / 4) words ≡ words_of bytes
  pub inside : length bytes / 4 ≤ length words
  pub wide : length words + 2 * (length words / 32) + 49 ≤ length table

pub record CanWalk (bytes words table : List ℕ) : Type 0 where
  pub good : bad_length bytes ≡ false
  pub rooms : Rooms bytes words table

pub record CanPutBack (bytes words : List ℕ) (place to : ℕ) : Type 0 where
  pub order : place ≤ to
  pub within : to ≤ length bytes / 4
  pub inside : length bytes / 4 ≤ length words
  pub before : (i : ℕ) → i < place → get_or words i 0 ≡ get_or (words_of bytes) i 0
  pub behind : (i : ℕ) → to ≤ i → i < length bytes / 4 → get_or words i 0 ≡ get_or (words_of bytes) i 0

pub record NewLoaded (bytes : List ℕ) (place : ℕ) (new words table : List ℕ) : Type 0 where
  pub good : bad_length bytes ≡ false
  pub within : place + length new / 4 ≤ length bytes / 4
  pub loaded : take (length bytes / 4) words ≡ spliced (words_of bytes) place (words_of new)
  pub inside : length bytes / 4 ≤ length words
  pub wide : length words + 2 * (length words / 32) + 49 ≤ length table

pub record NewRead (Γ : Context) (bytes : List ℕ) (place : ℕ) (new words table : List ℕ) (r : Extent) : Type 0 where
  pub loaded : NewLoaded bytes place new words table
  pub simple : read_to (spliced (words_of bytes) place (words_of new)) Γ.depth place (place + length new / 4) ≡ true
  pub extent : ExtentOf (spliced (words_of bytes) place (words_of new)) place Γ.depth r

pub record OldIfRead (Γ : Context) (bytes words : List ℕ) (s : Places) (table : List ℕ) (place to levels : ℕ) : Type 0 where
  pub walk : CanWalk bytes words table
  pub right : read_to (words_of bytes) levels place to ≡ true → CallsRight (words_of bytes) Γ s table

pub record ChangedRight (Γ : Context) (bytes : List ℕ) (place : ℕ) (new : List ℕ) (s : Places) (table : List ℕ) : Type 0 where
  pub within : place + length (words_of new) ≤ length (words_of bytes)
  pub simple : read_to (spliced (words_of bytes) place (words_of new)) Γ.depth place (place + length new / 4) ≡ true
  pub right : CallsRight (spliced (words_of bytes) place (words_of new)) Γ s table

abbrev pub layout_of : Result Walked Refusal → Layout
layout_of (Ok x) = Ok x.places
layout_of (Err x) = Err x

pub record WalkedFile (Γ : Context) (bytes : List ℕ) (r : Result Walked Refusal) (table : List ℕ) : Type 0 where
  pub called : Called (words_of bytes) Γ (layout_of r) table
  pub alone : (x : Walked) → r ≡ Ok x → x.both ≡ false

pub record WalkedOld (Γ : Context) (bytes : List ℕ) (s : Places) (before : List ℕ) (r : Result Walked Refusal) (table : List ℕ) : Type 0 where
  pub called : Called (words_of bytes) Γ (layout_of r) table
  pub same_places : (x : Walked) → r ≡ Ok x → x.both ≡ true → x.places ≡ s
  pub kept : (x : Walked) → r ≡ Ok x → x.both ≡ true → table ≡ before

pub record WalkedFirst (Γ : Context) (bytes : List ℕ) (place : ℕ) (new : List ℕ) (r : Result Walked Refusal) (words table : List ℕ) : Type 0 where
  pub loaded : take (length bytes / 4) words ≡ words_of bytes
  pub called : Called (words_of bytes) Γ (layout_of r) table
  pub both : (x : Walked) → r ≡ Ok x → x.both ≡ true → ChangedRight Γ bytes place new x.places table
