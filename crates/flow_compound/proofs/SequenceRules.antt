-- A sequence (document 01, rule 2).
-- Assumes nothing.
--     not-sequence, sequence-comes    what the rule comes to
use mathlib.Core.Path.{◌≡◌, refl}
use mathlib.Core.List.{List}
use Prim.Native.Nat.{ℕ}
use Rattle.rules.specs.Context.{Context}
use Rattle.rules.specs.Condition.{by_form}
use Rattle.rules.specs.Evidence.{flow2, members, child, done, ◌&◌}
use Rattle.rules.specs.Judge.{misfit, flow_rule, judge}
use Rattle.layout.specs.Bytes.{kind_at}
use Rattle.std.specs.Prelude.{Ok, Err}
use Rattle.implication.specs.declared.Failure.TheVariants.{Fails}
use Rattle.goals.specs.declared.Goal.TheVariants.{Flow}
use Rattle.goals.specs.Goals.{flow-stands, CanTry, StepOf}
use Rattle.goals.proofs.Comes.{misfit-comes, comes, two-children, FlowComes, flow-rule}
use Rattle.rule_laws.proofs.Commands.{is-sequence, other-kind, other-than_sequence}
use Rattle.rule_laws.proofs.Trying.{up-to}

module _ {Γ : Context} {file ends : List ℕ} {p c q at : ℕ} (can : CanTry file ends Γ 2 (Flow p c q) at) where
  pub not-sequence : (kind_at file c ≡ 25 → ⊥) → StepOf file ends Γ (Flow p c q) at (Err Fails)
  unfolding flow_rule
  not-sequence h = flow-rule can flow2 λ x y e t d end a k z s.
      misfit-comes (other-than_sequence Γ misfit e _ (other-kind k h))

  passes : kind_at file c ≡ 25 → FlowComes Γ file ends p c q at flow2 (Ok tt)
  unfolding flow_rule judge by_form
  passes h x y e (members m & child k & child l & done) d end a b z (m-at, (i, k-at, (j, l-at, last))) =
      let f = is-sequence can.can.ends_of b h in
      rw f.is (comes _ (Ok tt) refl refl
      (two-children (flow-stands a f.first-at m-at k-at) (up-to (flow-stands m-at f.second_at z l-at) last)))

  pub sequence-comes : kind_at file c ≡ 25 → StepOf file ends Γ (Flow p c q) at (Ok tt)
  sequence-comes h = flow-rule can flow2 (passes h)
