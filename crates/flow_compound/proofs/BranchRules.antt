-- An if (document 01, rule 6).
-- Assumes nothing.
--     not-if, not-one_after, if_comes    what the rule comes to
--     can-branch                         what the code asks for
use mathlib.Core.Path.{◌≡◌, refl}
use mathlib.Core.Bool.{Bool}
use mathlib.Core.List.{List}
use Prim.Native.Nat.{ℕ, ◌+◌}
use Rattle.rules.specs.Context.{Context}
use Rattle.rules.specs.Condition.{by_form, on_one}
use Rattle.rules.specs.Evidence.{Parts, row, flow6, members, assertion, child, done, ◌&◌}
use Rattle.rules.specs.Judge.{misfit, flow_rule, judge}
use Rattle.layout.specs.Bytes.{kind_at}
use Rattle.std.specs.Prelude.{Err}
use Rattle.implication.specs.declared.Failure.TheVariants.{Fails}
use Rattle.goals.specs.declared.Goal.TheVariants.{Flow}
use Rattle.goals.specs.Conditions.{condition_of}
use Rattle.goals.specs.Goals.{flow-stands, pre-stands, CanTry, StepOf}
use Rattle.goals.proofs.Evidence.{Placed}
use Rattle.goals.proofs.Comes.{misfit-comes, three-children, FlowComes, flow-rule}
use Rattle.rule_laws.proofs.Commands.{is-if, other-kind, other-than_if}
use Rattle.rule_laws.proofs.Trying.{parts-of, up-to}
use Rattle.sets.specs.Piles.{count_at}
use Rattle.sets.specs.Rules.{CanBranches, SameBranches}
use Rattle.set_laws.proofs.Sets.{has-set, is_one, not-one}
use Rattle.flow_compound.proofs.Goal.{second, third, by-test, trees}

module _ {Γ : Context} {file ends : List ℕ} {p c q at : ℕ} (can : CanTry file ends Γ 6 (Flow p c q) at) where
  pub not-if : (kind_at file c ≡ 29 → ⊥) → StepOf file ends Γ (Flow p c q) at (Err Fails)
  unfolding flow_rule
  not-if h = flow-rule can flow6 λ x y e t d end a k z s. misfit-comes (other-than_if Γ misfit e _ (other-kind k h))

  module _ (h : kind_at file c ≡ 29) where
    pub not-one_after : (count_at file q ≡ 1 → ⊥) → StepOf file ends Γ (Flow p c q) at (Err Fails)
    unfolding flow_rule by_form
    not-one_after n = flow-rule can flow6 λ x y e t d end a k z s.
        rw (is-if can.can.ends_of k h).is (misfit-comes (not-one z misfit _ n))

    branch : (t : Parts (row flow6).after) (d end : ℕ) → Placed Γ file ends d t (at + 1) end →
        CanBranches file ends p (at + 1) (second ends at) (c + 1) (third ends at)
    branch (members s & members t & assertion φ & l) d end (s-at, (t-at, (φ-at, _))) = record {
      ends_of = can.can.ends_of;
      first-set = has-set (trees can.can).before_at;
      then-set = has-set s-at;
      else_set = has-set t-at;
      test = record { tree = _; there = (is-if can.can.ends_of (trees can.can).command-at h).test_at };
      before = record { tree = _; there = φ-at };
    }

    pub can-branch : CanBranches file ends p (at + 1) (second ends at) (c + 1) (third ends at)
    can-branch = let x = parts-of can flow6 in branch x.parts x.levels x.end x.parts-placed

    comes : count_at file q ≡ 1 → {b : Bool} →
        SameBranches file ends p (at + 1) (second ends at) (c + 1) (third ends at) b →
        FlowComes Γ file ends p c q at flow6 (condition_of b)
    unfolding flow_rule judge by_form on_one
    comes one w x y e (members s & members t & assertion φ & child k & child l & child n & done) d end a b z
        (s-at, (t-at, (φ-at, (i, k-at, (j, l-at, (m, n-at, last)))))) =
        let f = is-if can.can.ends_of b h in
        let g = is_one z can.can.ends_of one in
        let if_at = rw f.is at b in
        let one_at = rw g.is at z in
        rw (f.is, g.is) (by-test refl
        (w.does x s t f.test φ a s-at t-at f.test_at φ-at)
        (three-children (flow-stands s-at f.first-at one_at k-at) (flow-stands t-at f.second_at one_at l-at)
        (up-to (pre-stands φ-at if_at g.only_at.antecedent-at n-at) last)))

    pub if_comes : count_at file q ≡ 1 → {b : Bool} →
        SameBranches file ends p (at + 1) (second ends at) (c + 1) (third ends at) b →
        StepOf file ends Γ (Flow p c q) at (condition_of b)
    if_comes one w = flow-rule can flow6 (comes one w)
