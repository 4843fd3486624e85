-- A rule by the judgement of its goal, and what the goal of a child asks for.
-- Assumes nothing.
--     can-step_of, step_of, child-is                        a rule by the judgement of its goal
--     children-few                                          a rule has few children
--     flow_child-asked, set_child-asked, pre-child_asked    what the goal of a child asks for, by judgement
use mathlib.Core.Path.{◌≡◌, sym, subst}
use mathlib.Core.Bool.{Bool, true, false, cond}
use mathlib.Core.List.{List, [], ◌∷◌}
use Prim.Native.Nat.{ℕ, ◌<◌, ◌≤◌}
use native.Mathlib.Omega.{arith}
use lib.Dec.{eqb}
use lib.ListN.{length}
use Rattle.rules.specs.Context.{Context}
use Rattle.implication.specs.Sides.{Condition}
use Rattle.goals.specs.declared.Goal.{Goal}
use Rattle.goals.specs.declared.Goal.TheVariants.{Flow, Set, Pre}
use Rattle.goals.specs.Children.{of_rule, flow_children, set_children, pre_children, children_at, child_at}
use Rattle.goals.specs.Goals.{CanStep, StepOf}
use Rattle.flow_compound.specs.Children as flows
use Rattle.pre_compound.specs.Children as pres
use Rattle.judge.specs.Going.{CanChild}

-- by the judgement of a goal
module _ {goal g : Goal} (e : goal ≡ g) where
  pub can-step_of : {file ends : List ℕ} {Γ : Context} {at : ℕ} → CanStep file ends Γ goal at → CanStep file ends Γ g at
  can-step_of {file} {ends} {Γ} {at} h = subst (λ x. CanStep file ends Γ x at) e h

  pub step_of : {file ends : List ℕ} {Γ : Context} {at : ℕ} {r : Condition} → StepOf file ends Γ g at r →
      StepOf file ends Γ goal at r
  step_of {file} {ends} {Γ} {at} {r} h = subst (λ x. StepOf file ends Γ x at r) (sym e) h

  pub child-is : (file ends : List ℕ) (rule at k : ℕ) {r : Goal} → r ≡ child_at file ends g rule at k →
      r ≡ child_at file ends goal rule at k
  child-is file ends rule at k {r} h = subst (λ x. r ≡ child_at file ends x rule at k) (sym e) h

-- a rule has few children
abbrev FewIn : List (ℕ × List Goal) → Type 0
FewIn [] = Unit {0}
FewIn (x ∷ l) = (length x.1 ≤ 8) × FewIn l

few-of : (n : ℕ) (l : List (ℕ × List Goal)) → FewIn l → length (of_rule n l) ≤ 8
few-of n [] h = omega arith
few-of n (x ∷ l) h = go (eqb n x.0) (few-of n l h.1)
  where
    go : (b : Bool) → length (of_rule n l) ≤ 8 → length (cond b x.1 (of_rule n l)) ≤ 8
    go true i = h.0
    go false i = i

pub children-few : (file ends : List ℕ) (goal : Goal) (rule at : ℕ) → length (children_at file ends goal rule at) ≤ 8
children-few file ends (Flow p c q) rule at = few-of rule (flow_children ends p c q at) (
  omega arith,
  (omega arith, (omega arith, (omega arith, (omega arith, (omega arith, (omega arith, (omega arith, (omega arith, tt)))))))),
)
children-few file ends (Set p q) rule at = few-of rule (set_children ends p q at) (omega arith, (omega arith, tt))
children-few file ends (Pre f c g) rule at =
    few-of rule (pre_children file ends f c g at)
    (omega arith, (omega arith, (omega arith, (omega arith, (omega arith, (omega arith, tt))))))

module _ {file ends : List ℕ} {goal : Goal} {rule at k : ℕ} where
  moved : {g : Goal} → goal ≡ g → CanChild file ends goal rule at k → CanChild file ends g rule at k
  moved e h = subst (λ x. CanChild file ends x rule at k) e h

  below : {n : ℕ} → CanChild file ends goal rule at k → n < length file → n < 8192
  below h l = let s = h.size in omega arith

  pub flow_child-asked : {p c q : ℕ} → goal ≡ Flow p c q → CanChild file ends goal rule at k →
      flows.CanFlowChild ends rule p c q at k
  flow_child-asked e h =
      let x = moved e h in
      record {
        before = below h x.low.0;
        command = below h x.low.1;
        after = below h x.low.2;
        word = below h x.place;
        child = x.some;
      }

  pub set_child-asked : {p q : ℕ} → goal ≡ Set p q → CanChild file ends goal rule at k →
      (at < 8192) × (k < length (of_rule rule (set_children ends p q at)))
  set_child-asked e h = let x = moved e h in (below h x.place, x.some)

  pub pre-child_asked : {f c g : ℕ} → goal ≡ Pre f c g → CanChild file ends goal rule at k →
      pres.CanPreChild file ends rule f c g at k
  pre-child_asked e h =
      let x = moved e h in
      record { size = x.size; command = x.low.1; word = x.place; child = x.some }
