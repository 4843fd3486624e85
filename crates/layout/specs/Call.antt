-- Refusal 16 (document 02, request [3]): a call to a number not below its own procedure's, or not in the table.
-- Trusted. Assumes nothing.
--     callable     how many procedures end before a place: these may be called there. In procedure i they are those below i, in
--                  the main program all
--     wrong_call    at the place stands a call to another number
use Rattle.std.specs.Prelude.{Bool, not, ◌&&◌, cond, List, [], ◌∷◌, ℕ, suc, eqb, ltb, leb}
use Rattle.layout.specs.Bytes.{kind_at, payload_at}
use Rattle.layout.specs.Program.{Program}

abbrev pub callable : List Program → ℕ → ℕ
callable [] at = 0
callable (f ∷ l) at = cond (leb f.past at) (suc (callable l at)) 0

-- in a file that was read, the words of kind 38 are its calls, those of its programs and those that evidence carries
abbrev pub wrong_call : List ℕ → List Program → ℕ → Bool
wrong_call file l at = eqb (kind_at file at) 38 && not (ltb (payload_at file at) (callable l at))
