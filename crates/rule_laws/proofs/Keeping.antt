-- A scan for what a command modifies, by the places of the command and of an expression or set.
-- Assumes nothing.
--     kept_at    what the mask and the scan say of what stands at the places
use mathlib.Core.Path.{◌≡◌, subst}
use mathlib.Core.Bool.{Bool}
use mathlib.Core.List.{List}
use Prim.Native.Nat.{ℕ}
use Rattle.language.specs.Syntax.{Command}
use Rattle.rules.specs.Context.{Context}
use Rattle.ends.specs.Mask.{ModifiedBy}
use Rattle.ends.specs.Places.{end_at}
use Rattle.ends.specs.Procedures.{Procedures}
use Rattle.scan.specs.Scan.{Modified, Unmarked}
use Rattle.goals.specs.Resolved.{ResolvedAt}
use Rattle.rule_laws.specs.Sameness.{KeptAt}

pub kept_at : {file ends : List ℕ} {e c to mask : ℕ} {r : Bool} → Modified file ends c (end_at ends c) mask →
    to ≡ end_at ends e → Unmarked file e to mask r → KeptAt file ends e c r
kept_at {file} {ends} {e} {c} {to} {mask} {r} marks g u =
    let test = subst (λ p. Unmarked file e p mask r) g u in
    let modifies : (Γ : Context) → Procedures file ends Γ → (p : Command) → ResolvedAt file ends Γ p c → ModifiedBy p mask =
    λ Γ k p y. marks.command Γ k p y.there.levels y.there.stands y.resolved in
    record {
      expression = λ Γ k d p x y. test.expression d x.levels x.stands p (modifies Γ k p y);
      set = λ Γ k q p x y. test.set Γ q x.levels x.stands p (modifies Γ k p y);
    }
