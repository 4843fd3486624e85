-- The context of a program that follows so many procedures of a file (document 02, request [3]).
-- Working: `context-before` of proofs/Before says that it has the first so many procedures of a file that was read. Assumes nothing.
--     onward           what follows a program that was read
--     context_before    with the procedures that stand from a place on
use Rattle.std.specs.Prelude.{List, ℕ, zero, suc}
use Rattle.rules.specs.Context.{Context}
use Rattle.layout.specs.Reading.{Reading, read, fault}
use Rattle.layout.specs.Program.{Program, program, after}

abbrev pub onward : Context → Reading Program → (Context → ℕ → Context) → Context
onward Γ (read f p) next = next (after Γ f) p
onward Γ (fault n p) next = Γ

unfoldable pub context_before : Context → List ℕ → ℕ → ℕ → Context
context_before Γ file zero at = Γ
context_before Γ file (suc k) at = onward Γ (program Γ file at) λ Δ p. context_before Δ file k p
