-- Rule 18 of sets: one member each, with the same consequent; the antecedent of Q implies that of P.
-- Assumes nothing.
--     can-same, can-imply                     what the code asks for
--     left-fails, right-fails, differ_fails   a condition that fails
--     implied-rule                            the rule
use mathlib.Core.Path.{◌≡◌, refl, sym, ap, ap₂, ◌∙◌}
use mathlib.Core.Bool.{Bool, true, false}
use mathlib.Core.List.{List}
use Prim.Native.Nat.{ℕ, ◌+◌}
use Rattle.language.specs.Syntax.{Boolean, Expr}
use Rattle.rules.specs.Context.{Context}
use Rattle.rules.specs.Condition.{test, ◌then◌, implication, on_one}
use Rattle.rules.specs.Evidence.{set18}
use Rattle.rules.specs.Judge.{misfit, childless, set_rule}
use Rattle.ends.specs.Places.{end_at, WrittenAt}
use Rattle.implication.specs.Sides.{Condition, result_of}
use Rattle.std.specs.Prelude.{Err}
use Rattle.implication.specs.declared.Failure.TheVariants.{Fails}
use Rattle.goals.specs.Goals.{CanTry, StepOf}
use Rattle.goals.specs.declared.Goal.TheVariants.{Set}
use Rattle.ends.proofs.Places.{at_place, node_known}
use Rattle.goals.proofs.Comes.{then-passes, then-fails}
use Rattle.rule_laws.specs.Implications.{CanImplyAt, ImpliesAt}
use Rattle.rule_laws.specs.Sameness.{CanSame, SameAt}
use Rattle.sets.specs.Piles.{count_at}
use Rattle.set_laws.proofs.Sets.{is_one, not-one}
use Rattle.set_unions.proofs.Goal.{left_one, right-one, leaf-rule}

module _ {file ends : List ℕ} {Γ : Context} {p q at : ℕ} (can : CanTry file ends Γ 18 (Set p q) at) {j : ℕ}
    (m : j ≡ count_at file p) where
  pub left-fails : (j ≡ 1 → ⊥) → StepOf file ends Γ (Set p q) at (Err Fails)
  unfolding set_rule
  left-fails h = leaf-rule can set18 refl λ x y a b. not-one a misfit _ (λ e. h (m ∙ e))

  module _ (h : j ≡ 1) {k : ℕ} (n : k ≡ count_at file q) where
    pub right-fails : (k ≡ 1 → ⊥) → StepOf file ends Γ (Set p q) at (Err Fails)
    unfolding set_rule on_one
    right-fails g = leaf-rule can set18 refl λ x y a b.
        ap (λ z. set_rule Γ set18 z y) (is_one a can.can.ends_of (sym m ∙ h)).is
        ∙ not-one b misfit _ (λ e. g (n ∙ e))

    module _ (g : k ≡ 1) where
      pub can-imply : CanImplyAt file ends Γ (q + 1) (p + 1)
      can-imply = record {
        ends_of = can.can.ends_of;
        size = can.can.size;
        few = can.can.few;
        left = record { tree = _; there = (right-one can n g).only_at.antecedent-at };
        right = record { tree = _; there = (left_one can m h).only_at.antecedent-at };
      }

      module _ {e f : ℕ} (i : e ≡ end_at ends (p + 1)) (l : f ≡ end_at ends (q + 1)) where
        pub can-same : CanSame file ends e f
        can-same = record {
          first = node_known can.can.ends_of (at_place i (left_one can m h).only_at.consequent-at);
          second = node_known can.can.ends_of (at_place l (right-one can n g).only_at.consequent-at);
        }

        module _ {b : Bool} (same : SameAt file ends e f b) where
          -- by the result of the two conditions
          ones : {c : Condition} →
              ((φ ψ : Expr Boolean) → WrittenAt file ends φ (q + 1) → WrittenAt file ends ψ (p + 1) →
              (test b then implication Γ φ ψ) ≡ result_of c) → StepOf file ends Γ (Set p q) at c
          unfolding set_rule on_one
          ones d = leaf-rule can set18 refl λ x y a v.
              let z = is_one a can.can.ends_of (sym m ∙ h) in
              let u = is_one v can.can.ends_of (sym n ∙ g) in
              let is = same.is z.only.consequent u.only.consequent
              (at_place i z.only_at.consequent-at) (at_place l u.only_at.consequent-at) in
              ap₂ (set_rule Γ set18) z.is u.is
              ∙ ap childless
              (ap (λ t. test t then implication Γ u.only.antecedent z.only.antecedent) (sym is)
              ∙ d _ _ u.only_at.antecedent-at z.only_at.antecedent-at)

          pub differ_fails : b ≡ false → StepOf file ends Γ (Set p q) at (Err Fails)
          differ_fails d = ones λ φ ψ x y. then-fails _ d

          pub implied-rule : b ≡ true → {c : Condition} → ImpliesAt file ends Γ (q + 1) (p + 1) c →
              StepOf file ends Γ (Set p q) at c
          implied-rule d implied = ones λ φ ψ x y. then-passes _ d ∙ sym (implied.is φ ψ x y)
