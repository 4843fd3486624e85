-- No file that the rules before request [2] of document 02 accept is refused: a derivation by them is one by the rules with it.
-- Assumes nothing.
--     still-accepted    the claim
use mathlib.Core.List.{List, [], ◌∷◌}
use Prim.Native.Nat.{ℕ}
use Rattle.rules.specs.Context.{Limits, Context, alone}
use Rattle.rules.specs.Sets.{SamePlain, SameByWords}
use Rattle.rules.proofs.Monotone.{flow-by_words}
use Rattle.layout.specs.Program.{Program, after}
use Rattle.claims.specs.Check.{Derivations}
use Rattle.claims.specs.StillAccepted.{StillAccepted}
use Rattle.claims.proofs.Check.{demand_2}

derivations-by_words : (Γ : Context) (l : List Program) (f : Program) → Derivations SameByWords Γ l f → Derivations SamePlain Γ l f
derivations-by_words Γ [] f d = flow-by_words d
derivations-by_words Γ (g ∷ l) f d = (flow-by_words d.0, derivations-by_words (after Γ g) l f d.1)

pub still-accepted : (limits : Limits) (bytes : List ℕ) → StillAccepted limits bytes
still-accepted limits bytes = record {
  still-accepted = λ d. (demand_2 limits bytes).complete (record {
    file = d.file;
    end = d.end;
    reads = d.reads;
    derivations = derivations-by_words (alone limits) d.file.procedures d.file.main d.derivations;
  });
}
