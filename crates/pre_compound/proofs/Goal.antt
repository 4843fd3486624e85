-- A goal of necessary preconditions with its evidence, as trees at their places.
-- Assumes nothing.
--     PreGoalAt, here                  the trees of a goal that can be tried
--     command-head, low-command        its command's first word is in the file
--     first-boolean, second-boolean, first-known, command-known
--                                      its three parts are in the list of ends
--     first-carried                    an assertion that stands first after the word of a rule
--     leaf-rule, misfit-rule           a rule with no children, by its conditions' result; a command of another form
--     is_32                            the last rule that has children
--     low_word, low-place, child-of    what the goal of a child is worked out from, by the rule's number
use Rattle.std.specs.Prelude.{Err}
use Rattle.implication.specs.declared.Failure.TheVariants.{Fails}
use mathlib.Core.Path.{◌≡◌, refl, sym, subst}
use mathlib.Core.List.{List, [], ◌∷◌}
use Prim.Native.Nat.{ℕ, ◌+◌, ◌<◌}
use native.Mathlib.Omega.{arith}
use borrow.Author.Tests.{ne_eqb}
use lib.ListN.{length}
use Rattle.language.specs.Syntax.{Boolean, Expr, Command}
use Rattle.rules.specs.Context.{Context}
use Rattle.rules.specs.Evidence.{Item, assertion_item, Rule, Parts, precondition, assertion, done, ◌&◌}
use Rattle.rules.specs.Judge.{accepted, misfit, childless, applied, pre_rule, judge}
use Rattle.implication.specs.Sides.{Condition, result_of}
use Rattle.goals.specs.Children.{children_at}
use Rattle.goals.specs.Goals.{TreeGoal, GoalStands, pre-stands, ChildrenOf, CanTry, StepOf}
use Rattle.goals.specs.declared.Goal.TheVariants.{Pre}
use Rattle.ends.specs.Places.{WrittenAt, PartKnown}
use Rattle.goals.specs.Resolved.{ResolvedAt}
use Rattle.ends.proofs.Places.{node_inside, node_known}
use Rattle.goals.proofs.Evidence.{Placed}
use Rattle.goals.proofs.Comes.{no-children, comes, misfit-comes, PreComes, pre-rule}
use Rattle.matching.specs.Places.{ExpressionAt}
use Rattle.rule_laws.proofs.Trying.{first_word, parts-of, only-rule}
use Rattle.pre_compound.specs.Children.{CanPreChild}

pub record PreGoalAt (Γ : Context) (file ends : List ℕ) (f c g : ℕ) : Type 0 where
  pub φ : Expr Boolean
  pub φ' : Expr Boolean
  pub command : Command
  pub first-at : WrittenAt file ends φ f
  pub second_at : WrittenAt file ends φ' g
  pub command-at : ResolvedAt file ends Γ command c

trees : {Γ : Context} {file ends : List ℕ} {f c g : ℕ} {t : TreeGoal} {d at end : ℕ} →
    GoalStands Γ file ends (Pre f c g) t d at end → PreGoalAt Γ file ends f c g
trees (pre-stands {φ = φ} {φ' = φ'} {c = e} x y z s) =
    record { φ = φ; φ' = φ'; command = e; first-at = x; second_at = z; command-at = y }

-- an assertion that is carried first
first_of : (Γ : Context) (file ends : List ℕ) (d at end : ℕ) {l : List Item} (t : Parts (assertion_item ∷ l)) →
    Placed Γ file ends d t at end → ExpressionAt file ends Boolean at
first_of Γ file ends d at end (assertion φ & t) (a, x) = record { tree = φ; there = a }

module _ {file ends : List ℕ} {Γ : Context} {f c g at : ℕ} where
  module _ {n : ℕ} (can : CanTry file ends Γ n (Pre f c g) at) where
    pub here : PreGoalAt Γ file ends f c g
    here = trees can.can.goal-stands

    pub command-head : c < length file
    command-head = first_word (node_inside here.command-at.there)

    pub low-command : c < 8192
    low-command = let h = command-head in let s = can.can.size in omega arith

    pub first-boolean : ExpressionAt file ends Boolean f
    first-boolean = record { tree = here.φ; there = here.first-at }

    pub second-boolean : ExpressionAt file ends Boolean g
    second-boolean = record { tree = here.φ'; there = here.second_at }

    pub first-known : PartKnown file ends f
    first-known = node_known can.can.ends_of here.first-at

    pub command-known : PartKnown file ends c
    command-known = node_known can.can.ends_of here.command-at.there

    pub first-carried : {l : List Item} → Rule precondition n (assertion_item ∷ l) → ExpressionAt file ends Boolean (at + 1)
    first-carried r =
        let x = parts-of can r in
        first_of Γ file ends x.levels (at + 1) x.end x.parts x.parts-placed

    pub leaf-rule : (r : Rule precondition n []) → children_at file ends (Pre f c g) n at ≡ [] → {u : Condition} →
        ((φ φ' : Expr Boolean) (e : Command) → WrittenAt file ends φ f → ResolvedAt file ends Γ e c →
        WrittenAt file ends φ' g → pre_rule Γ r φ e φ' ≡ childless (result_of u)) → StepOf file ends Γ (Pre f c g) at u
    leaf-rule r none {u} h = pre-rule can r go
      where
        go : PreComes Γ file ends f c g at r u
        go φ φ' e done d end x y z s =
            comes (accepted 0) u (h φ φ' e x y z) refl
            (subst (λ l. ChildrenOf Γ file ends (accepted 0) l d (at + 1) end) (sym none) (no-children s))

    pub misfit-rule : {l : List Item} (r : Rule precondition n l) →
        ((φ φ' : Expr Boolean) (e : Command) (t : Parts l) → ResolvedAt file ends Γ e c →
        applied l (pre_rule Γ r) (judge Γ t) φ e φ' ≡ misfit) → StepOf file ends Γ (Pre f c g) at (Err Fails)
    misfit-rule r h = pre-rule can r λ φ φ' e t d end x y z s. misfit-comes (h φ φ' e t y)

-- rules 20, 21, 23, 28, 30 and 32 alone have children
pub is_32 : {file ends : List ℕ} {rule f c g at k : ℕ} → CanPreChild file ends rule f c g at k → (rule ≡ 20 → ⊥) → (rule ≡ 21 → ⊥) →
    (rule ≡ 23 → ⊥) → (rule ≡ 28 → ⊥) → (rule ≡ 30 → ⊥) → rule ≡ 32
is_32 {rule = rule} {k = k} x n20 n21 n23 n28 n30 =
    only-rule rule 32 _ k
    (rw (ne_eqb rule 20 n20, ne_eqb rule 21 n21, ne_eqb rule 23 n23, ne_eqb rule 28 n28, ne_eqb rule 30 n30) at x.child)

module _ {file ends : List ℕ} {rule n f c g at k : ℕ} (e : rule ≡ n) (x : CanPreChild file ends rule f c g at k) where
  pub low_word : at < 8192
  low_word = let s = x.size in let w = x.word in omega arith

  pub low-place : c < 8192
  low-place = let s = x.size in let w = x.command in omega arith

  -- of the rule with that number
  pub child-of : k < length (children_at file ends (Pre f c g) n at)
  child-of = subst (λ i. k < length (children_at file ends (Pre f c g) i at)) e x.child
