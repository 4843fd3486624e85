-- Walks: where a reading of the layout goes on, or its refusal; and the word that is due at a place.
-- Working: `arithmetic-goes`, `boolean-goes`, `array-goes`, `command-goes`, `set-goes` and `evidence-goes` of proofs/Walks
-- tie them to the layout's readers.
--     sort_meant              the definitions' sorts
--     Walk                   where a reading goes on, or the refusal
--     walk_of, onward         the place past what was read; going on from what was found
--     command_walk            of a command, under any context: `command-walk` of proofs/Contexts
--     due_of                  the word that is due, with refusals 3 and 4
--     after                  what a table gives at the word, with refusal 5
use Rattle.std.specs.Prelude.{cond, List, ℕ, zero, suc, ◌+◌, ltb, Result, Ok, Err}
use Rattle.std.proofs.Math.Option.{Option, none, some}
use Rattle.language.specs.Syntax as syntax
use Rattle.rules.specs.Context.{alone, standard}
use Rattle.layout.specs.Bytes.{word_count, kind_at, payload_at}
use Rattle.layout.specs.Reading.{Reading, read, fault, Reader}
use Rattle.layout.specs.Read.{command}
use Rattle.context.specs.Contexts.{refusal}
use Rattle.context.specs.declared.Refusal.{Refusal}
use Rattle.reader.specs.declared.FirstWord.{FirstWord}
use Rattle.reader.specs.declared.Sort.{Sort}
use Rattle.reader.specs.declared.Sort.TheVariants.{Arithmetic, Boolean, Array}

abbrev pub sort_meant : Sort → syntax.Sort
sort_meant Arithmetic = syntax.Arithmetic
sort_meant Boolean = syntax.Boolean
sort_meant Array = syntax.Array

abbrev pub Walk : Type 0
Walk = Result ℕ Refusal

abbrev pub walk_of : {A : Type 0} → Reading A → Walk
walk_of (read a p) = Ok p
walk_of (fault n p) = Err (refusal n p)

abbrev pub onward : {A B : Type 0} → Result A Refusal → (A → Result B Refusal) → Result B Refusal
onward (Ok a) f = f a
onward (Err x) f = Err x

abbrev pub command_walk : List ℕ → ℕ → ℕ → Walk
command_walk file d at = walk_of (command (alone standard) file d at)

unfoldable pub due_of : List ℕ → ℕ → ℕ → Result FirstWord Refusal
due_of file zero at = cond (ltb at (word_count file)) (Err (refusal 4 at)) (Err (refusal 3 (word_count file)))
due_of file (suc d) at =
    cond (ltb at (word_count file))
    (Ok (record { kind = kind_at file at; payload = payload_at file at; next = at + 1; below = d }))
    (Err (refusal 3 (word_count file)))

-- the word stands at `at`, its parts from q on
abbrev pub after : {A : Type 0} → Option (Reader A) → ℕ → ℕ → Reading A
after none at q = fault 5 at
after (some r) at q = r q
