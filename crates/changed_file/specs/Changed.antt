-- What is known of the old command, and of the words of a changed file by the table of the words before.
-- Working: `exchanged` and `can-mend_table` of proofs/ChangedWords say what follows of their table, `same-again` and `apart-again` that
-- refusal 7 lets them pass as before. Assumes nothing.
--     LevelsFor       with how many levels the new command has to be read
--     OldAt           what is kept of the old one
--     ChangedKnown    with a command that takes no more levels than the old one, refusals 2 to 6 and 16 let them pass as before
use Rattle.std.specs.Prelude.{◌≡◌, Bool, true, false, List, ℕ, ◌<◌, ◌≤◌, length, get_or, Ok}
use Rattle.layout.specs.File.{words_read}
use Rattle.scan.specs.ForsMask.{ForsFound}
use Rattle.context.specs.Contexts.{limits_of}
use Rattle.context.specs.declared.Context.{Context}
use Rattle.reader.specs.File.{places_of}
use Rattle.reader.specs.declared.Places.{Places}
use Rattle.file.specs.Found.{CallsRight, TableRoom}
use Rattle.scan.specs.declared.for_mask.Fors.{Fors}
use Rattle.splice.specs.SimpleWords.{read_to}
use Rattle.splice.specs.Extent.{ExtentOf}
use Rattle.splice.specs.declared.extent.Extent.{Extent}
use Rattle.changed_file.specs.Tables.{Marked}
use Rattle.changed_file.specs.declared.old.Old.{Old}

-- the levels of the old command, unless the changed words are known to pass
pub record LevelsFor (w : List ℕ) (place depth : ℕ) (both : Bool) (r : ℕ) : Type 0 where
  pub few : r ≤ depth
  pub all : both ≡ true → r ≡ depth
  pub levels : both ≡ false → (x : Extent) × ExtentOf w place depth x × (r ≡ x.levels)

pub record OldAt (w : List ℕ) (place depth : ℕ) (both : Bool) (fors : Fors) (r : Old) : Type 0 where
  pub first : r.first ≡ get_or w place 0
  pub levels-for : LevelsFor w place depth both r.levels
  pub known : r.known ≡ both
  pub same-fors : r.fors ≡ fors

-- v are the words of the changed file
pub record ChangedKnown (Γ : Context) (v : List ℕ) (s : Places) (table : List ℕ) (place to : ℕ) (old : Old) : Type 0 where
  pub words : List ℕ
  pub marked : Marked words Γ s table
  pub was_read : Ok s ≡ places_of (words_read (limits_of Γ) words)
  pub fors_of : ForsFound words old.fors
  pub first : old.first ≡ get_or words place 0
  pub simple : read_to words Γ.depth place to ≡ true
  pub size : length v ≡ length words
  pub before : (i : ℕ) → i < place → get_or v i 0 ≡ get_or words i 0
  pub behind : (i : ℕ) → to ≤ i → get_or v i 0 ≡ get_or words i 0
  pub room : TableRoom v table
  pub few : old.levels ≤ Γ.depth
  pub known : old.known ≡ true → read_to v old.levels place to ≡ true
  pub right : read_to v old.levels place to ≡ true → CallsRight v Γ s table
