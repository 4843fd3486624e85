-- The places of a program's parts (document 01, "Layout"; document 02, request [3]).
-- Working: `program-places` of proofs/ProgramParts says that the layout's `program` is read so. Assumes nothing.
--     places                             a program's places, by number
--     Layout                             the places of what was read, or the refusal
--     program_layout                      of a program that was read
--     from_pre, from_post, from_evidence    the parts from there on
use Rattle.std.specs.Prelude.{List, ℕ, Result, Ok, Err}
use Rattle.rules.specs.Context.{Context}
use Rattle.rules.specs.Evidence.{flow}
use Rattle.layout.specs.Reading.{Reading, read, fault}
use Rattle.layout.specs.Read.{set}
use Rattle.layout.specs.ReadEvidence.{evidence}
use Rattle.layout.specs.Program.{Program}
use Rattle.context.specs.Contexts.{refusal}
use Rattle.context.specs.declared.Refusal.{Refusal}
use Rattle.reader.specs.Walk.{walk_of, onward}
use Rattle.reader.specs.declared.Places.{Places}

abbrev pub places : ℕ → ℕ → ℕ → ℕ → ℕ → Places
places s a b c d = record { start = s; pre = a; post = b; evidence = c; end = d }

abbrev pub Layout : Type 0
Layout = Result Places Refusal

abbrev pub program_layout : Reading Program → Layout
program_layout (read f p) = Ok (places f.start f.pre_at f.post_at f.evidence_at p)
program_layout (fault n p) = Err (refusal n p)

-- the program starts at s
abbrev pub from_evidence : Context → List ℕ → ℕ → ℕ → ℕ → ℕ → Layout
from_evidence Γ w s a b c = onward (walk_of (evidence Γ w Γ.limits.depth flow c)) λ d. Ok (places s a b c d)

abbrev pub from_post : Context → List ℕ → ℕ → ℕ → ℕ → Layout
from_post Γ w s a b = onward (walk_of (set Γ w Γ.limits.depth b)) λ c. from_evidence Γ w s a b c

abbrev pub from_pre : Context → List ℕ → ℕ → ℕ → Layout
from_pre Γ w s a = onward (walk_of (set Γ w Γ.limits.depth a)) λ b. from_post Γ w s a b
