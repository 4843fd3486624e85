-- Refusal 7 (document 01, "Judging order"): a `for`, also a carried one, has q = m or a body that modifies q or m.
-- Trusted. Assumes nothing.
--     steady                  a `for` that has neither, by its q, m and body
--     unsteady, unsteady_at    what was read is a `for` that has one of them; such a `for` stands at a place
use Rattle.std.specs.Prelude.{Bool, true, false, not, ◌&&◌, List, ℕ, eqb}
use Rattle.language.specs.Syntax.{Command}
use Rattle.language.specs.Modifies.{scalar_of, modifies}
use Rattle.rules.specs.Context.{Context}
use Rattle.rules.specs.Condition.{on_for}
use Rattle.layout.specs.Bytes.{kind_at}
use Rattle.layout.specs.Reading.{Reading, read, fault}
use Rattle.layout.specs.Read.{command}

abbrev pub steady : ℕ → ℕ → Command → Bool
steady q m c = not (eqb q m) && (not (modifies c (scalar_of q)) && not (modifies c (scalar_of m)))

-- no file is accepted by the second case: at each word of kind 31 of a file that was read a `for` can be read again, as
-- `file-fors` of proofs/Fors says
abbrev pub unsteady : Reading Command → Bool
unsteady (read c p) = on_for c false λ q m c₁. not (steady q m c₁)
unsteady (fault n p) = false

-- in a file that was read, the words of kind 31 are its `for`s, those of its programs and those that evidence carries
unfoldable pub unsteady_at : Context → List ℕ → ℕ → Bool
unsteady_at Γ file at =
    elim (eqb (kind_at file at) 31) [ true ↦ unsteady (command Γ file Γ.limits.depth at) | false ↦ false ]
