-- Refusal 7 (document 01, "Judging order") on words: each word of kind 31 is a `for`, and its body is a range of words.
-- Working: `file-fors` of layout/proofs/Fors, `found_here` and `found_none` of proofs/Tests tie it to the layout's `unsteady_at`.
-- Assumes nothing.
--     MaskedFile       a file that refusals 2 to 6 and 16 let pass, and the masks of its procedures
--     CanMarkBody      what the mask of a body asks
--     CanTestFor, Tested, CanScanFors, FirstFound
--                      what the test of one place and the scan ask and say
use Rattle.std.specs.Prelude.{◌≡◌, Bool, true, List, ℕ, ◌<◌, ◌≤◌, length, Option}
use Rattle.std.proofs.Math.Option.{none}
use Rattle.rules.specs.Context.{Limits, Context, alone}
use Rattle.layout.specs.Bytes.{word_count, kind_at}
use Rattle.layout.specs.Reading.{first_place}
use Rattle.layout.specs.Program.{after_all}
use Rattle.layout.specs.Call.{wrong_call}
use Rattle.layout.specs.For.{unsteady_at}
use Rattle.layout.specs.File.{File}
use Rattle.layout.specs.FileWords.{FileStands}
use Rattle.ends.specs.Blocks.{Blocks}
use Rattle.ends.specs.Ends.{EndsListed}
use Rattle.scan.specs.Programs.{Masks}
use Rattle.scan.specs.Fault.{fault_place}

-- with all procedures of a file
abbrev pub file_context : Limits → File → Context
file_context limits f = after_all (alone limits) f.procedures

pub record MaskedFile (file ends : List ℕ) (limits : Limits) (f : File) : Type 0 where
  pub stands : FileStands limits file f
  pub called : first_place (wrong_call file f.procedures) (word_count file) 0 ≡ none
  pub masks : Masks file ends (file_context limits f)

-- where `blocked` is so, the masks of blocks are filled
pub record CanMarkBody (file ends : List ℕ) (to : ℕ) (blocked : Bool) : Type 0 where
  pub listed : EndsListed file ends
  pub blocks : blocked ≡ true → Blocks file ends
  pub inside : to ≤ length file

pub record CanTestFor (file ends : List ℕ) (at : ℕ) (blocked : Bool) : Type 0 where
  pub inside : at < word_count file
  pub is-for : kind_at file at ≡ 31
  pub listed : EndsListed file ends
  pub blocks : blocked ≡ true → Blocks file ends

-- each `for` stands from `from` on and before `to`
pub record CanScanFors (file ends : List ℕ) (from to : ℕ) (blocked : Bool) : Type 0 where
  pub listed : EndsListed file ends
  pub blocks : blocked ≡ true → Blocks file ends
  pub before : (i : ℕ) → i < from → kind_at file i ≡ 31 → ⊥
  pub behind : (i : ℕ) → to ≤ i → i < length file → kind_at file i ≡ 31 → ⊥

pub record Tested (file ends : List ℕ) (at : ℕ) (r : Bool) : Type 0 where
  pub place : (limits : Limits) (f : File) → MaskedFile file ends limits f → r ≡ unsteady_at (file_context limits f) file at

pub record FirstFound (file ends : List ℕ) (r : Option ℕ) : Type 0 where
  pub place : (limits : Limits) (f : File) → MaskedFile file ends limits f →
      r ≡ fault_place (first_place (unsteady_at (file_context limits f) file) (word_count file) 0)
