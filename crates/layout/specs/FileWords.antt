-- A whole file by its words (document 01, "Layout"; document 02, request [3]): 63:n, 62:k if there are procedures, and the parts
-- of each program, one after the other.
-- Working: `file-stood` and `file-back` of proofs/WholeFile say that the reader reads exactly the files that stand so.
-- Assumes nothing.
--     program_parts                    the parts of a program
--     ProgramStands, ProgramsStand    they stand at its places; programs one after the other, each under those before it
--     table_words, FileStands          the word of a table of procedures; a file
use Rattle.std.specs.Prelude.{◌≡◌, List, [], ◌∷◌, ℕ, ◌+◌, ◌≤◌, pos, length}
use Rattle.rules.specs.Words.{Word, word}
use Rattle.rules.specs.Context.{Limits, Context, alone}
use Rattle.layout.specs.Bytes.{word_count, number_at}
use Rattle.layout.specs.Spelling.{encode, SpelledAt}
use Rattle.layout.specs.EvidenceWords.{Part, command_part, set_part, tree_part}
use Rattle.layout.specs.Standing.{PartStands}
use Rattle.layout.specs.Program.{Program, after}
use Rattle.layout.specs.File.{File}

abbrev pub program_parts : Context → Program → List Part
program_parts Γ f =
    command_part Γ f.command ∷ set_part Γ f.pre ∷ set_part Γ f.post ∷ tree_part Γ f.evidence ∷ []

pub record ProgramStands (Γ : Context) (file : List ℕ) (f : Program) : Type 0 where
  pub command : PartStands file (command_part Γ f.command) Γ.limits.depth f.start f.pre_at
  pub pre : PartStands file (set_part Γ f.pre) Γ.limits.depth f.pre_at f.post_at
  pub post : PartStands file (set_part Γ f.post) Γ.limits.depth f.post_at f.evidence_at
  pub evidence : PartStands file (tree_part Γ f.evidence) Γ.limits.depth f.evidence_at f.past

abbrev pub ProgramsStand : Context → List ℕ → List Program → Program → ℕ → ℕ → Type 0
ProgramsStand Γ file [] f at p = (f.start ≡ at) × ProgramStands Γ file f × (f.past ≡ p)
ProgramsStand Γ file (g ∷ l) f at p =
    (g.start ≡ at) × ProgramStands Γ file g × ProgramsStand (after Γ g) file l f g.past p

-- what stands between word 0 and the programs
abbrev pub table_words : List Program → List Word
table_words [] = []
table_words (g ∷ l) = word 62 (pos (length (g ∷ l))) ∷ []

pub record FileStands (limits : Limits) (file : List ℕ) (f : File) : Type 0 where
  pub count : number_at file 0 ≡ encode (word 63 (pos (word_count file)))
  pub table : SpelledAt file 1 (table_words f.procedures)
  pub few : length f.procedures ≤ 16
  pub programs :
      ProgramsStand (alone limits) file f.procedures f.main (1 + length (table_words f.procedures)) (word_count file)
