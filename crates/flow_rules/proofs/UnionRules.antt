-- Two parts of a set, each with its own evidence (document 01, rule 9).
-- Assumes nothing.
--     can-first, can-second       what the code asks for
--     union_fails, union_comes    what the rule comes to
use mathlib.Core.Path.{◌≡◌, refl, sym, ◌∙◌}
use mathlib.Core.Bool.{Bool, true, false}
use mathlib.Core.List.{List}
use Prim.Native.Nat.{ℕ, ◌+◌}
use Rattle.rules.specs.Context.{Context}
use Rattle.rules.specs.Evidence.{Parts, row, flow9, members, child, done, ◌&◌}
use Rattle.rules.specs.Judge.{flow_rule, judge}
use Rattle.std.specs.Prelude.{Err}
use Rattle.implication.specs.declared.Failure.TheVariants.{Fails}
use Rattle.goals.specs.declared.Goal.TheVariants.{Flow}
use Rattle.goals.specs.Conditions.{condition_of}
use Rattle.goals.specs.Goals.{flow-stands, CanTry, StepOf}
use Rattle.goals.proofs.Evidence.{Placed}
use Rattle.goals.proofs.Comes.{two-children, FlowComes, flow-rule}
use Rattle.rule_laws.proofs.Trying.{parts-of, up-to}
use Rattle.sets.specs.Rules.{CanThree, SameUnion}
use Rattle.set_laws.proofs.Sets.{has-set}
use Rattle.flow_compound.proofs.Goal.{second, third, fourth, first-fails, second-test}
use Rattle.flow_compound.proofs.Goal.{trees}

module _ {Γ : Context} {file ends : List ℕ} {p c q at : ℕ} (can : CanTry file ends Γ 9 (Flow p c q) at) where
  asked : (t : Parts (row flow9).after) (d end : ℕ) → Placed Γ file ends d t (at + 1) end →
      CanThree file ends p (at + 1) (third ends at) × CanThree file ends q (second ends at) (fourth ends at)
  asked (members s & members s' & members t & members t' & l) d end (s-at, (s'-at, (t-at, (t'-at, _)))) = (
    record {
      ends_of = can.can.ends_of;
      first-set = has-set (trees can.can).before_at;
      second-set = has-set s-at;
      third-set = has-set t-at;
    },
    record {
      ends_of = can.can.ends_of;
      first-set = has-set (trees can.can).after-at;
      second-set = has-set s'-at;
      third-set = has-set t'-at;
    },
  )

  pub can-first : CanThree file ends p (at + 1) (third ends at)
  can-first = let x = parts-of can flow9 in (asked x.parts x.levels x.end x.parts-placed).0

  pub can-second : CanThree file ends q (second ends at) (fourth ends at)
  can-second = let x = parts-of can flow9 in (asked x.parts x.levels x.end x.parts-placed).1

  module _ {a : Bool} (u : SameUnion file ends p (at + 1) (third ends at) a) where
    fails : a ≡ false → FlowComes Γ file ends p c q at flow9 (Err Fails)
    unfolding flow_rule judge
    fails h x y e (members s & members s' & members t & members t' & l) d end f g z
        (s-at, (s'-at, (t-at, (t'-at, _)))) =
        first-fails _ refl (u.does x s t f s-at t-at) h

    comes : a ≡ true → {b : Bool} → SameUnion file ends q (second ends at) (fourth ends at) b →
        FlowComes Γ file ends p c q at flow9 (condition_of b)
    unfolding flow_rule judge
    comes h w x y e (members s & members s' & members t & members t' & child k & child l & done) d end f g z
        (s-at, (s'-at, (t-at, (t'-at, (i, k-at, (j, l-at, last)))))) =
        second-test refl (sym (u.does x s t f s-at t-at) ∙ h)
        (w.does y s' t' z s'-at t'-at)
        (two-children (flow-stands s-at g s'-at k-at) (up-to (flow-stands t-at g t'-at l-at) last))

    pub union_fails : a ≡ false → StepOf file ends Γ (Flow p c q) at (Err Fails)
    union_fails h = flow-rule can flow9 (fails h)

    pub union_comes : a ≡ true → {b : Bool} → SameUnion file ends q (second ends at) (fourth ends at) b →
        StepOf file ends Γ (Flow p c q) at (condition_of b)
    union_comes h w = flow-rule can flow9 (comes h w)
