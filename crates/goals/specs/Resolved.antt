-- Commands and evidence at places of a file, whose calls hold the bodies of their procedures (document 02, request [3]).
-- Working: `placed` of proofs/Evidence says that what stands after an evidence word that stands so does too. Assumes nothing.
--     ResolvedAt    a command stands at a place, and is resolved
--     EvidenceAt    evidence or a part of it stands from a place up to another, and what it carries is resolved
use Rattle.std.specs.Prelude.{List, ℕ}
use Rattle.language.specs.Syntax.{Command}
use Rattle.rules.specs.Context.{Context}
use Rattle.rules.specs.Evidence.{Standing, Tree}
use Rattle.rules.specs.Resolved.{Resolved, Carried}
use Rattle.layout.specs.EvidenceWords.{tree_part}
use Rattle.layout.specs.Standing.{PartStands}
use Rattle.ends.specs.Places.{CommandAt}

pub record ResolvedAt (file ends : List ℕ) (Γ : Context) (c : Command) (at : ℕ) : Type 0 where
  pub there : CommandAt file ends Γ c at
  pub resolved : Resolved Γ.procedures c

-- with d levels left
pub record EvidenceAt (Γ : Context) (file : List ℕ) {s : Standing} (d at : ℕ) (k : Tree s) (end : ℕ) : Type 0 where
  pub stands : PartStands file (tree_part Γ k) d at end
  pub carried : Carried Γ.procedures k
