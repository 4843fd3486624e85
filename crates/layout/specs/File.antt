-- A whole file (document 01, "Layout" and "Judging order" 1 to 7; document 02, requests [3] and [6]): 63:n, a table of procedures if
-- there are any, and the main program.
-- Trusted. Assumes nothing.
--     File                               the procedures and the main program
--     programs, procedure_table, parts    refusals 3 to 5: so many procedures and the main program; after 62:k; from place 1 on
--     steady_file, calls_tested, finish
--                                        refusal 7; 16, then 7; 6, then 16 and 7
--     words_read                          refusals 2 to 7 and 16, of words
--     bad_length, bytes_read               refusal 1; 1 to 7 and 16, of bytes
--     file_of                             refusal 19; then these
use Rattle.std.specs.Prelude.{Bool, true, false, not, ◌&&◌, ◌||◌, cond, List, [], ◌∷◌, ℕ, zero, suc, ◌+◌, ◌*◌, ◌%◌, eqb, ltb, leb, length}
use Rattle.std.proofs.Math.Option.{Option, none, some}
use Rattle.rules.specs.Context.{Limits, within_ranges, Context, alone}
use Rattle.layout.specs.Bytes.{words_of, word_count, number_at, kind_at, payload_at, payloads}
use Rattle.layout.specs.Reading.{Reading, read, fault, Reader, on_read, allowed, first_place}
use Rattle.layout.specs.Program.{Program, program, after, after_all}
use Rattle.layout.specs.Call.{wrong_call}
use Rattle.layout.specs.For.{unsteady_at}

pub record File : Type 0 where
  pub procedures : List Program
  pub main : Program

-- each procedure is read under those before it, the main program under all
unfoldable pub programs : Context → List ℕ → ℕ → Reader File
programs Γ file zero at = on_read (program Γ file at) λ f p. read (record { procedures = []; main = f }) p
programs Γ file (suc k) at = on_read (program Γ file at) λ g p. on_read (programs (after Γ g) file k p) λ f q.
    read (record { procedures = g ∷ f.procedures; main = f.main }) q

-- k is from 1 to 16
abbrev pub procedure_table : Limits → List ℕ → ℕ → Option (Reader File)
procedure_table limits file k = cond (leb 1 k && leb k 16) (some (programs (alone limits) file k)) none

-- 62:k may stand after word 0
unfoldable pub parts : Limits → List ℕ → Reading File
parts limits file =
    elim (eqb (kind_at file 1) 62) [
      | true ↦ allowed (procedure_table limits file (payload_at file 1)) 1
      | false ↦ programs (alone limits) file 0 1
    ]

-- refusal 7: a `for` that is not well formed
unfoldable pub steady_file : Limits → List ℕ → File → ℕ → Reading File
steady_file limits file f p =
    elim (first_place (unsteady_at (after_all (alone limits) f.procedures) file) (word_count file) 0) [
      | none ↦ read f p
      | some at ↦ fault 7 at
    ]

-- refusal 16: a call to a number that may not be called there; then 7
unfoldable pub calls_tested : Limits → List ℕ → File → ℕ → Reading File
calls_tested limits file f p =
    elim (first_place (wrong_call file f.procedures) (word_count file) 0) [
      | none ↦ steady_file limits file f p
      | some at ↦ fault 16 at
    ]

-- refusal 6: words follow the evidence; then 16 and 7
unfoldable pub finish : Limits → List ℕ → File → ℕ → Reading File
finish limits file f p =
    elim (ltb p (word_count file)) [ true ↦ fault 6 p | false ↦ calls_tested limits file f p ]

-- refusal 2: word 0 is not 63:n; then 3 to 6, 16 and 7
unfoldable pub words_read : Limits → List ℕ → Reading File
words_read limits file =
    elim (eqb (number_at file 0) (63 * payloads + word_count file)) [
      | true ↦ on_read (parts limits file) (finish limits file)
      | false ↦ fault 2 0
    ]

-- refusal 1: the byte count is 0, over 32,768 or no multiple of 4
abbrev pub bad_length : List ℕ → Bool
bad_length bytes = eqb (length bytes) 0 || (ltb 32768 (length bytes) || not (eqb (length bytes % 4) 0))

unfoldable pub bytes_read : Limits → List ℕ → Reading File
bytes_read limits bytes = elim (bad_length bytes) [ true ↦ fault 1 0 | false ↦ words_read limits (words_of bytes) ]

-- refusal 19: a setting is outside its range; then 1 to 7 and 16
unfoldable pub file_of : Limits → List ℕ → Reading File
file_of limits bytes = elim (within_ranges limits) [ true ↦ bytes_read limits bytes | false ↦ fault 19 0 ]
