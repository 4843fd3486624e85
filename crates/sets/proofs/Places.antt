-- The places of a member that stands in a file.
-- Assumes nothing.
--     antecedent-any, consequent-any    its two expressions
--     any-known                         an expression's place and its end are known
--     member-pass                       its places are in the list of ends
use mathlib.Core.Path.{◌≡◌, sym, subst}
use mathlib.Core.List.{List}
use Prim.Native.Nat.{ℕ}
use Rattle.language.specs.Syntax.{Boolean}
use Rattle.ends.specs.Ends.{EndsOf}
use Rattle.ends.specs.Places.{end_at, PartKnown}
use Rattle.ends.proofs.Places.{node_known}
use Rattle.matching.specs.Places.{AnyAt}
use Rattle.matching.proofs.Exchange.{any-listed}
use Rattle.sets.specs.Standing.{CanPass, MemberAt}

module _ {file ends : List ℕ} where
  -- the antecedent as an expression of some sort
  pub antecedent-any : {a : ℕ} → MemberAt file ends a → AnyAt file ends a
  antecedent-any m = record { sort = Boolean; expression = m.antecedent }

  pub consequent-any : {a middle : ℕ} → MemberAt file ends a → middle ≡ end_at ends a → AnyAt file ends middle
  consequent-any m e = subst (AnyAt file ends) (sym e) m.consequent

  pub any-known : {at : ℕ} → EndsOf file ends → AnyAt file ends at → PartKnown file ends at
  any-known o x = node_known o x.expression.there

  pub member-pass : {a : ℕ} → EndsOf file ends → MemberAt file ends a → CanPass ends a
  member-pass o m = record { first = any-listed o (antecedent-any m); second = any-listed o m.consequent }
