-- A while, and a for by the command that it means (document 01, rules 13 and 14).
-- Assumes nothing.
--     can-test, not-while, not_same, while-comes    rule 13: what the code asks for; what the rule comes to
--     can-mean, not-for, for-comes                  rule 14
use mathlib.Core.Path.{◌≡◌, refl, sym, subst, ◌∙◌}
use mathlib.Core.Bool.{Bool, true, false}
use mathlib.Core.List.{List}
use Prim.Native.Nat.{ℕ, ◌+◌}
use Rattle.rules.specs.Context.{Context}
use Rattle.rules.specs.Condition.{by_form}
use Rattle.rules.specs.Evidence.{Parts, row, flow13, flow14, command, child, done, ◌&◌}
use Rattle.rules.specs.Judge.{misfit, flow_rule, judge}
use Rattle.layout.specs.Bytes.{kind_at}
use Rattle.std.specs.Prelude.{Err}
use Rattle.implication.specs.declared.Failure.TheVariants.{Fails}
use Rattle.goals.specs.declared.Goal.TheVariants.{Flow}
use Rattle.ends.specs.Places.{CommandAt}
use Rattle.goals.specs.Conditions.{condition_of}
use Rattle.goals.specs.Goals.{flow-stands, CanTry, StepOf}
use Rattle.ends.proofs.Places.{node_known}
use Rattle.goals.proofs.Evidence.{Placed}
use Rattle.goals.proofs.Comes.{misfit-comes, one-child, FlowComes, flow-rule}
use Rattle.rule_laws.specs.Sameness.{CanMean, MeaningAt}
use Rattle.rule_laws.proofs.Commands.{is-while, is-for, other-kind, other-than_while, other-than_for}
use Rattle.rule_laws.proofs.Trying.{parts-of, up-to}
use Rattle.sets.specs.Rules.{CanTest, SameWritten, TestStands}
use Rattle.set_laws.proofs.Sets.{has-set}
use Rattle.flow_compound.proofs.Goal.{by-test, first-fails, second-test, trees}
use Rattle.flow_compound.proofs.Goal.{command-head}

module _ {Γ : Context} {file ends : List ℕ} {p c q at : ℕ} (can : CanTry file ends Γ 13 (Flow p c q) at) where
  pub not-while : (kind_at file c ≡ 30 → ⊥) → StepOf file ends Γ (Flow p c q) at (Err Fails)
  unfolding flow_rule
  not-while h = flow-rule can flow13 λ x y e t d end f g z s. misfit-comes (other-than_while Γ misfit e _ (other-kind g h))

  module _ (h : kind_at file c ≡ 30) where
    pub can-test : CanTest file ends p (c + 1)
    can-test = record {
      ends_of = can.can.ends_of;
      first-set = has-set (trees can.can).before_at;
      test = record { tree = _; there = (is-while can.can.ends_of (trees can.can).command-at h).test_at };
    }

    module _ {a : Bool} (u : SameWritten file ends p q a) where
      pub not_same : a ≡ false → StepOf file ends Γ (Flow p c q) at (Err Fails)
      unfolding flow_rule by_form
      not_same n = flow-rule can flow13 λ x y e t d end f g z s.
          rw (is-while can.can.ends_of g h).is (first-fails _ refl (u.does x y f z) n)

      comes : a ≡ true → {b : Bool} → TestStands file ends p (c + 1) b → FlowComes Γ file ends p c q at flow13 (condition_of b)
      unfolding flow_rule judge by_form
      comes n w x y e (child k & done) d end f g z (i, k-at, last) =
          let l = is-while can.can.ends_of g h in
          rw l.is (second-test refl (sym (u.does x y f z) ∙ n)
          (w.does x l.test f l.test_at)
          (one-child (up-to (flow-stands f l.body_at z k-at) last)))

      pub while-comes : a ≡ true → {b : Bool} → TestStands file ends p (c + 1) b →
          StepOf file ends Γ (Flow p c q) at (condition_of b)
      while-comes n w = flow-rule can flow13 (comes n w)

module _ {Γ : Context} {file ends : List ℕ} {p c q at : ℕ} (can : CanTry file ends Γ 14 (Flow p c q) at) where
  pub not-for : (kind_at file c ≡ 31 → ⊥) → StepOf file ends Γ (Flow p c q) at (Err Fails)
  unfolding flow_rule
  not-for h = flow-rule can flow14 λ x y e t d end f g z s. misfit-comes (other-than_for Γ misfit e _ (other-kind g h))

  module _ (h : kind_at file c ≡ 31) where
    asked : (t : Parts (row flow14).after) (d end : ℕ) → Placed Γ file ends d t (at + 1) end →
        CanMean file ends (at + 1) c
    asked (command m & l) d end (m-at, _) = record {
      ends_of = can.can.ends_of;
      command = node_known can.can.ends_of m-at.there;
      head = command-head can.can;
      body =
          node_known can.can.ends_of
          (is-for can.can.ends_of (trees can.can).command-at h).parts.body_at;
    }

    pub can-mean : CanMean file ends (at + 1) c
    can-mean = let x = parts-of can flow14 in asked x.parts x.levels x.end x.parts-placed

    means : {b : Bool} → MeaningAt file ends (at + 1) c b → FlowComes Γ file ends p c q at flow14 (condition_of b)
    unfolding flow_rule judge by_form
    means w x y e (command m & child k & done) d end f g z (m-at, (i, k-at, last)) =
        let l = is-for can.can.ends_of g h in
        let written = subst (λ v. CommandAt file ends Γ v c) l.is g.there in
        rw l.is (by-test refl (w.is Γ m l.counter l.bound l.body m-at.there written)
        (one-child (up-to (flow-stands f m-at z k-at) last)))

    pub for-comes : {b : Bool} → MeaningAt file ends (at + 1) c b → StepOf file ends Γ (Flow p c q) at (condition_of b)
    for-comes w = flow-rule can flow14 (means w)
