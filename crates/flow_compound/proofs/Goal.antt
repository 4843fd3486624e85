-- A goal of flow with its evidence, as trees at their places.
-- Assumes nothing.
--     second, third, fourth               where the second, third and fourth of what its evidence carries starts
--     Trees, trees                        the trees of a goal; of a goal that can be judged
--     by-test, first-fails, second-test   from the code's tests: one; the first fails, or passes before a second
--     no-parts                            no parts end where they start
--     before_head, command-head, after-head
--                                         the first words are in the file
--     can-two                             the two sets of a goal, as the comparison of sets takes them
use mathlib.Core.Path.{◌≡◌, sym, ap, ◌∙◌}
use mathlib.Core.Bool.{Bool, true, false}
use mathlib.Core.List.{List, []}
use Prim.Native.Nat.{ℕ, ◌+◌, ◌<◌}
use lib.ListN.{length}
use Rattle.language.specs.Syntax.{Command}
use Rattle.rules.specs.Assertion.{Members}
use Rattle.rules.specs.Context.{Context}
use Rattle.rules.specs.Evidence.{done, Parts}
use Rattle.rules.specs.Condition.{Result, test, ◌then◌}
use Rattle.rules.specs.Judge.{Verdict, RuleStep, step}
use Rattle.ends.specs.Places.{end_at, SetAt}
use Rattle.std.specs.Prelude.{Err}
use Rattle.implication.specs.declared.Failure.TheVariants.{Fails}
use Rattle.goals.specs.declared.Goal.{Goal}
use Rattle.goals.specs.declared.Goal.TheVariants.{Flow}
use Rattle.goals.specs.Conditions.{condition_of}
use Rattle.goals.specs.Resolved.{ResolvedAt}
use Rattle.goals.specs.Goals.{TreeGoal, GoalStands, flow-stands, ChildrenOf, ComesTo, CanStep}
use Rattle.ends.proofs.Places.{node_inside}
use Rattle.goals.proofs.Evidence.{Placed}
use Rattle.goals.proofs.Comes.{fails-comes, test-comes, then-passes, then-fails}
use Rattle.rule_laws.proofs.Trying.{first_word}
use Rattle.sets.specs.Rules.{CanTwo}
use Rattle.set_laws.proofs.Sets.{has-set}

module _ (ends : List ℕ) (at : ℕ) where
  abbrev pub second : ℕ
  second = end_at ends (at + 1)

  abbrev pub third : ℕ
  third = end_at ends second

  abbrev pub fourth : ℕ
  fourth = end_at ends third

-- the trees of a goal
pub record Trees (Γ : Context) (file ends : List ℕ) (p c q : ℕ) : Type 0 where
  pub before : Members
  pub command : Command
  pub after : Members
  pub before_at : SetAt file ends Γ before p
  pub command-at : ResolvedAt file ends Γ command c
  pub after-at : SetAt file ends Γ after q

-- the code's test a is the rule's b
module _ {Γ : Context} {file ends : List ℕ} {s : RuleStep} {goals : List Goal} {d next end : ℕ} {v : Verdict}
    {a b : Bool} where
  pub by-test : s ≡ step (test b) v → a ≡ b → ChildrenOf Γ file ends v goals d next end →
      ComesTo Γ file ends s goals d next end (condition_of a)
  by-test e h k = test-comes v a (e ∙ ap (λ i. step (test i) v) (sym h)) (λ _. k)

  pub first-fails : (x : Result) → s ≡ step (test b then x) v → a ≡ b → a ≡ false →
      ComesTo Γ file ends s goals d next end (Err Fails)
  first-fails x e h f = fails-comes v (e ∙ ap (λ i. step i v) (then-fails x (sym h ∙ f)))

  pub second-test : {x : Bool} → s ≡ step (test x then test b) v → x ≡ true → a ≡ b →
      ChildrenOf Γ file ends v goals d next end → ComesTo Γ file ends s goals d next end (condition_of a)
  second-test e t h k = by-test (e ∙ ap (λ i. step i v) (then-passes (test b) t)) h k

pub no-parts : (Γ : Context) (file ends : List ℕ) (d : ℕ) {at end : ℕ} (t : Parts []) → Placed Γ file ends d t at end →
    at ≡ end
no-parts Γ file ends d done s = s

module _ {Γ : Context} {file ends : List ℕ} {p c q at : ℕ} where
  trees-of : {t : TreeGoal} {d end : ℕ} → GoalStands Γ file ends (Flow p c q) t d at end → Trees Γ file ends p c q
  trees-of (flow-stands {p = x} {q = y} {c = e} a b z s) =
      record { before = x; command = e; after = y; before_at = a; command-at = b; after-at = z }

  module _ (can : CanStep file ends Γ (Flow p c q) at) where
    pub trees : Trees Γ file ends p c q
    trees = trees-of can.goal-stands

    -- first words are in the file
    pub before_head : p < length file
    before_head = first_word (node_inside trees.before_at)

    pub command-head : c < length file
    command-head = first_word (node_inside trees.command-at.there)

    pub after-head : q < length file
    after-head = first_word (node_inside trees.after-at)

-- the two sets of the goal, as the comparison of sets takes them
pub can-two : {Γ : Context} {file ends : List ℕ} {p c q at : ℕ} → CanStep file ends Γ (Flow p c q) at →
    CanTwo file ends p q
can-two can = record {
  ends_of = can.ends_of;
  first-set = has-set (trees can).before_at;
  second-set = has-set (trees can).after-at;
}
