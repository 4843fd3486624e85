-- What a rule comes to, from the trees that stand at its places (document 01, "Judging order" 8 and 9).
-- Assumes nothing.
--     tested-result                                           the condition of a test
--     no-children, one-child, two-children, three-children    the goals of the children, from their verdict
--     fails-comes, misfit-comes                               conditions that fail; a form that does not fit
--     comes, test-comes                                       conditions by their result; by a test
--     then-passes, then-fails                                 a test, and then further conditions
--     FlowComes, SetComes, PreComes                           what a rule comes to for the trees of its goal
--     flow-rule, set-rule, pre-rule                           its contract from that
use mathlib.Core.Path.{◌≡◌, refl, sym, ap, ◌∙◌}
use mathlib.Core.Bool.{Bool, true, false}
use mathlib.Core.List.{List, [], ◌∷◌}
use Prim.Native.Nat.{ℕ, suc, ◌+◌, ◌≤◌}
use native.Mathlib.Omega.{arith}
use Rattle.language.specs.Syntax.{Boolean, Expr, Command}
use Rattle.rules.specs.Assertion.{Members}
use Rattle.rules.specs.Context.{Context}
use Rattle.rules.specs.Evidence as tree
use Rattle.rules.specs.Evidence.{Item, Rule, row, Parts}
use Rattle.rules.specs.Condition.{Result, fails, test, ◌then◌}
use Rattle.rules.specs.Judge.{Verdict, accepted, refused, ◌also◌, RuleStep, step, misfit, applied}
use Rattle.rules.specs.Judge.{flow_rule, set_rule, pre_rule, judge}
use Rattle.layout.specs.Bytes.{payload_at}
use Rattle.layout.proofs.BackEvidence.{rule-row}
use Rattle.std.specs.Prelude.{Ok, Err}
use Rattle.implication.specs.Sides.{Condition, result_of}
use Rattle.implication.specs.declared.Failure.TheVariants.{Fails}
use Rattle.goals.specs.declared.Goal.{Goal}
use Rattle.goals.specs.declared.Goal.TheVariants.{Flow, Set, Pre}
use Rattle.ends.specs.Places.{WrittenAt, SetAt}
use Rattle.goals.specs.Children.{children_at, past_carried}
use Rattle.goals.specs.Conditions.{condition_of}
use Rattle.goals.specs.Resolved.{ResolvedAt}
use Rattle.goals.specs.Goals.{TreeGoal, verdict, GoalStands, flow-stands, set-stands, pre-stands, ChildrenOf, ComesTo}
use Rattle.goals.specs.Goals.{tree_step, tree_items, CanTry, StepOf}
use Rattle.goals.proofs.Evidence.{Placed, placed, evidence-of}

pub tested-result : (b : Bool) → result_of (condition_of b) ≡ test b
unfolding test
tested-result true = refl
tested-result false = refl

also_none : (v : Verdict) → (v also accepted 0) ≡ v
unfolding ◌also◌
also_none (accepted n) = ap accepted (omega arith)
also_none (refused k i) = refl

module _ {Γ : Context} {file ends : List ℕ} {d next end : ℕ} where
  pub no-children : next ≡ end → ChildrenOf Γ file ends (accepted 0) [] d next end
  no-children e = record { trees = []; stand = e; judged = refl }

  pub one-child : {a : Goal} {t : TreeGoal} → GoalStands Γ file ends a t d next end →
      ChildrenOf Γ file ends (verdict Γ t) (a ∷ []) d next end
  one-child {t = t} s =
      record { trees = t ∷ []; stand = (end, s, refl); judged = sym (also_none (verdict Γ t)) }

  pub two-children : {a b : Goal} {t u : TreeGoal} {q : ℕ} → GoalStands Γ file ends a t d next q →
      GoalStands Γ file ends b u d q end → ChildrenOf Γ file ends (verdict Γ t also verdict Γ u) (a ∷ b ∷ []) d next end
  two-children {t = t} {u = u} {q = q} s r = record {
    trees = t ∷ u ∷ [];
    stand = (q, s, (end, r, refl));
    judged = ap (λ v. verdict Γ t also v) (sym (also_none (verdict Γ u)));
  }

  pub three-children : {a b c : Goal} {t u v : TreeGoal} {q p : ℕ} → GoalStands Γ file ends a t d next q →
      GoalStands Γ file ends b u d q p → GoalStands Γ file ends c v d p end →
      ChildrenOf Γ file ends (verdict Γ t also (verdict Γ u also verdict Γ v)) (a ∷ b ∷ c ∷ []) d next end
  three-children {t = t} {u = u} {v = v} {q = q} {p = p} s r z = record {
    trees = t ∷ u ∷ v ∷ [];
    stand = (q, s, (p, r, (end, z, refl)));
    judged = ap (λ w. verdict Γ t also (verdict Γ u also w)) (sym (also_none (verdict Γ v)));
  }

not-passes : {r : Condition} → r ≡ Ok tt → r ≡ Err Fails → ⊥
not-passes e f = let z : ◌≡◌ {A = ℕ} 0 1 = cc in omega (arith, z)

module _ {Γ : Context} {file ends : List ℕ} {s : RuleStep} {goals : List Goal} {d next end : ℕ} where
  pub fails-comes : (v : Verdict) → s ≡ step fails v → ComesTo Γ file ends s goals d next end (Err Fails)
  fails-comes v e = record { children = v; is = e; stand = λ p. absurd (not-passes p refl) }

  pub misfit-comes : s ≡ misfit → ComesTo Γ file ends s goals d next end (Err Fails)
  misfit-comes e = fails-comes (accepted 0) e

  -- conditions with the result of the code's
  pub comes : {x : Result} (v : Verdict) (r : Condition) → s ≡ step x v → result_of r ≡ x →
      ChildrenOf Γ file ends v goals d next end → ComesTo Γ file ends s goals d next end r
  comes v r e h c = record { children = v; is = e ∙ ap (λ y. step y v) (sym h); stand = λ p. c }

  -- a test alone
  pub test-comes : (v : Verdict) (b : Bool) → s ≡ step (test b) v → (b ≡ true → ChildrenOf Γ file ends v goals d next end) →
      ComesTo Γ file ends s goals d next end (condition_of b)
  unfolding test
  test-comes v true e c = record { children = v; is = e; stand = λ p. c refl }
  test-comes v false e c = fails-comes v e

-- a test, and then further conditions
pub then-passes : {b : Bool} (x : Result) → b ≡ true → test b then x ≡ x
unfolding test ◌then◌
then-passes x h = rw h refl

pub then-fails : {b : Bool} (x : Result) → b ≡ false → test b then x ≡ fails
unfolding test ◌then◌
then-fails x h = rw h refl

module _ (Γ : Context) (file ends : List ℕ) where
  -- for all trees at the places of its goal, and its parts, a rule comes to the conditions' result
  abbrev pub FlowComes : (p c q at : ℕ) {n : ℕ} {l : List Item} → Rule tree.flow n l → Condition → Type 0
  FlowComes p c q at {n} {l} r result =
      (x y : Members) (e : Command) (t : Parts l) (d end : ℕ) → SetAt file ends Γ x p → ResolvedAt file ends Γ e c →
      SetAt file ends Γ y q → Placed Γ file ends d t (at + 1) end →
      ComesTo Γ file ends (applied l (flow_rule Γ r) (judge Γ t) x e y) (children_at file ends (Flow p c q) n at) d
      (past_carried ends l (at + 1)) end result

  abbrev pub SetComes : (p q at : ℕ) {n : ℕ} {l : List Item} → Rule tree.implication n l → Condition → Type 0
  SetComes p q at {n} {l} r result =
      (x y : Members) (t : Parts l) (d end : ℕ) → SetAt file ends Γ x p → SetAt file ends Γ y q →
      Placed Γ file ends d t (at + 1) end →
      ComesTo Γ file ends (applied l (set_rule Γ r) (judge Γ t) x y) (children_at file ends (Set p q) n at) d
      (past_carried ends l (at + 1)) end result

  abbrev pub PreComes : (f c g at : ℕ) {n : ℕ} {l : List Item} → Rule tree.precondition n l → Condition → Type 0
  PreComes f c g at {n} {l} r result =
      (φ φ' : Expr Boolean) (e : Command) (t : Parts l) (d end : ℕ) → WrittenAt file ends φ f →
      ResolvedAt file ends Γ e c → WrittenAt file ends φ' g → Placed Γ file ends d t (at + 1) end →
      ComesTo Γ file ends (applied l (pre_rule Γ r) (judge Γ t) φ e φ') (children_at file ends (Pre f c g) n at) d
      (past_carried ends l (at + 1)) end result

  -- what a step promises of a goal as trees
  abbrev Promised : ℕ → Goal → Condition → TreeGoal → ℕ → ℕ → Type 0
  Promised at goal r g d end =
      ComesTo Γ file ends (tree_step Γ g) (children_at file ends goal (payload_at file at) at) d
      (past_carried ends (tree_items g) (at + 1)) end r

module _ {Γ : Context} {file ends : List ℕ} {n : ℕ} {l : List Item} {at : ℕ} {u : Condition} where
  pub flow-rule : {p c q : ℕ} → CanTry file ends Γ n (Flow p c q) at → (r : Rule tree.flow n l) →
      FlowComes Γ file ends p c q at r u → StepOf file ends Γ (Flow p c q) at u
  flow-rule {p} {c} {q} can r f = record { comes = go }
    where
      go : (g : TreeGoal) (d end : ℕ) → d ≤ 256 → GoalStands Γ file ends (Flow p c q) g (suc d) at end →
          Promised Γ file ends at (Flow p c q) u g d end
      go g d end low (flow-stands {k = k} {p = x} {q = y} {c = e} a b z s) =
          let w = evidence-of Γ file ends (row r) (rule-row r).0 k d at end s can.rule-is in
          rw (can.rule-is, w.is) (f x y e w.parts d end a b z
          (placed Γ file ends can.can.ends_of d low w.parts (at + 1) end w.stand))

  pub set-rule : {p q : ℕ} → CanTry file ends Γ n (Set p q) at → (r : Rule tree.implication n l) →
      SetComes Γ file ends p q at r u → StepOf file ends Γ (Set p q) at u
  set-rule {p} {q} can r f = record { comes = go }
    where
      go : (g : TreeGoal) (d end : ℕ) → d ≤ 256 → GoalStands Γ file ends (Set p q) g (suc d) at end →
          Promised Γ file ends at (Set p q) u g d end
      go g d end low (set-stands {k = k} {p = x} {q = y} a b s) =
          let w = evidence-of Γ file ends (row r) (rule-row r).0 k d at end s can.rule-is in
          rw (can.rule-is, w.is) (f x y w.parts d end a b
          (placed Γ file ends can.can.ends_of d low w.parts (at + 1) end w.stand))

  pub pre-rule : {f c g : ℕ} → CanTry file ends Γ n (Pre f c g) at → (r : Rule tree.precondition n l) →
      PreComes Γ file ends f c g at r u → StepOf file ends Γ (Pre f c g) at u
  pre-rule {f} {c} {g} can r h = record { comes = go }
    where
      go : (t : TreeGoal) (d end : ℕ) → d ≤ 256 → GoalStands Γ file ends (Pre f c g) t (suc d) at end →
          Promised Γ file ends at (Pre f c g) u t d end
      go t d end low (pre-stands {k = k} {φ = φ} {φ' = φ'} {c = e} a b z s) =
          let w = evidence-of Γ file ends (row r) (rule-row r).0 k d at end s can.rule-is in
          rw (can.rule-is, w.is) (h φ φ' e w.parts d end a b z
          (placed Γ file ends can.can.ends_of d low w.parts (at + 1) end w.stand))
