-- The rule of an assertion of which nothing is modified (document 01, rule 27).
-- Assumes nothing.
--     differs_fails, kept_rule    the first condition fails; the rule
use mathlib.Core.Path.{◌≡◌, refl, sym, ap, ◌∙◌}
use mathlib.Core.Bool.{Bool, true, false}
use mathlib.Core.List.{List}
use Prim.Native.Nat.{ℕ}
use Rattle.std.specs.Prelude.{Err}
use Rattle.rules.specs.Context.{Context}
use Rattle.rules.specs.Evidence.{pre27}
use Rattle.rules.specs.Judge.{childless, pre_rule}
use Rattle.implication.specs.Sides.{Condition}
use Rattle.implication.specs.declared.Failure.TheVariants.{Fails}
use Rattle.goals.specs.Conditions.{condition_of}
use Rattle.goals.specs.Goals.{CanTry, StepOf}
use Rattle.goals.specs.declared.Goal.TheVariants.{Pre}
use Rattle.goals.proofs.Comes.{then-passes, then-fails}
use Rattle.rule_laws.specs.Sameness.{SameAssertionAt, KeptAt}
use Rattle.rule_laws.proofs.Trying.{tested}
use Rattle.pre_compound.proofs.Goal.{leaf-rule}

module _ {file ends : List ℕ} {Γ : Context} {f c g at : ℕ} (can : CanTry file ends Γ 27 (Pre f c g) at) {a : Bool}
    (same : SameAssertionAt file ends f g a) where
  pub differs_fails : a ≡ false → StepOf file ends Γ (Pre f c g) at (Err Fails)
  unfolding pre_rule
  differs_fails h = leaf-rule can pre27 refl λ φ φ' e x y z. ap childless (then-fails _ (sym (same.is φ φ' x z) ∙ h))

  pub kept_rule : a ≡ true → {b : Bool} → KeptAt file ends f c b → {r : Condition} → r ≡ condition_of b →
      StepOf file ends Γ (Pre f c g) at r
  unfolding pre_rule
  kept_rule h kept i = leaf-rule can pre27 refl λ φ φ' e x y z.
      ap childless (then-passes _ (sym (same.is φ φ' x z) ∙ h) ∙ sym (tested i (kept.expression Γ can.can.procedures φ e x y)))
