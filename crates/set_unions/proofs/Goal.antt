-- A goal of two sets with its evidence, as trees at their places.
-- Assumes nothing.
--     SetGoalAt, here        the trees of a goal that can be tried
--     left_in, right-in      its two sets are in the file
--     left_one, right-one    its sets, where each is one member
--     leaf-rule              a rule with no children, by the result of its conditions
use mathlib.Core.Path.{◌≡◌, refl, sym, subst, ◌∙◌}
use mathlib.Core.List.{List, []}
use Prim.Native.Nat.{ℕ, ◌+◌, ◌<◌}
use lib.ListN.{length}
use Rattle.rules.specs.Assertion.{Members}
use Rattle.rules.specs.Context.{Context}
use Rattle.rules.specs.Evidence.{Rule, implication, done}
use Rattle.rules.specs.Judge.{accepted, childless, set_rule}
use Rattle.implication.specs.Sides.{Condition, result_of}
use Rattle.goals.specs.Children.{of_rule, set_children}
use Rattle.goals.specs.Goals.{TreeGoal, GoalStands, set-stands, ChildrenOf, CanTry, StepOf}
use Rattle.goals.specs.declared.Goal.TheVariants.{Set}
use Rattle.ends.specs.Places.{SetAt}
use Rattle.ends.proofs.Places.{node_inside}
use Rattle.goals.proofs.Comes.{no-children, comes, SetComes, set-rule}
use Rattle.rule_laws.proofs.Trying.{first_word}
use Rattle.sets.specs.Piles.{count_at}
use Rattle.set_laws.specs.Members.{OneWritten}
use Rattle.set_laws.proofs.Sets.{is_one}

pub record SetGoalAt (Γ : Context) (file ends : List ℕ) (p q : ℕ) : Type 0 where
  pub left : Members
  pub right : Members
  pub left_at : SetAt file ends Γ left p
  pub right-at : SetAt file ends Γ right q

trees : {Γ : Context} {file ends : List ℕ} {p q : ℕ} {g : TreeGoal} {d at end : ℕ} →
    GoalStands Γ file ends (Set p q) g d at end → SetGoalAt Γ file ends p q
trees (set-stands {p = x} {q = y} a b s) = record { left = x; right = y; left_at = a; right-at = b }

module _ {file ends : List ℕ} {Γ : Context} {p q at : ℕ} where
  module _ {n : ℕ} (can : CanTry file ends Γ n (Set p q) at) where
    pub here : SetGoalAt Γ file ends p q
    here = trees can.can.goal-stands

    pub left_in : p < length file
    left_in = first_word (node_inside here.left_at)

    pub right-in : q < length file
    right-in = first_word (node_inside here.right-at)

    pub left_one : {k : ℕ} → k ≡ count_at file p → k ≡ 1 → OneWritten file ends here.left (p + 1)
    left_one m h = is_one here.left_at can.can.ends_of (sym m ∙ h)

    pub right-one : {k : ℕ} → k ≡ count_at file q → k ≡ 1 → OneWritten file ends here.right (q + 1)
    right-one m h = is_one here.right-at can.can.ends_of (sym m ∙ h)

    pub leaf-rule : (r : Rule implication n []) → of_rule n (set_children ends p q at) ≡ [] → {c : Condition} →
        ((x y : Members) → SetAt file ends Γ x p → SetAt file ends Γ y q → set_rule Γ r x y ≡ childless (result_of c)) →
        StepOf file ends Γ (Set p q) at c
    leaf-rule r none {c} h = set-rule can r go
      where
        go : SetComes Γ file ends p q at r c
        go x y done d end a b s =
            comes (accepted 0) c (h x y a b) refl
            (subst (λ l. ChildrenOf Γ file ends (accepted 0) l d (at + 1) end) (sym none) (no-children s))
