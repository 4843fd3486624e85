-- The rules of a stronger assertion and of true (document 01, rules 28 and 29).
-- Assumes nothing.
--     can-imply, stronger_rule    rule 28: what the code asks for; the rule
--     true-rule                   rule 29
use mathlib.Core.Path.{◌≡◌, refl, sym, ap}
use mathlib.Core.Bool.{Bool}
use mathlib.Core.List.{List}
use Prim.Native.Nat.{ℕ, ◌+◌}
use Rattle.rules.specs.Context.{Context}
use Rattle.rules.specs.Evidence.{assertion, child, done, ◌&◌, pre28, pre29}
use Rattle.rules.specs.Judge.{childless, pre_rule, judge}
use Rattle.implication.specs.Sides.{Condition}
use Rattle.goals.specs.Conditions.{condition_of}
use Rattle.goals.specs.Goals.{CanTry, StepOf, pre-stands}
use Rattle.goals.specs.declared.Goal.TheVariants.{Pre}
use Rattle.goals.proofs.Comes.{comes, one-child, PreComes, pre-rule}
use Rattle.rule_laws.specs.Implications.{CanImplyAt, ImpliesAt}
use Rattle.rule_laws.proofs.Trying.{up-to, tested}
use Rattle.pre_compound.specs.Conditions.{TrueAt}
use Rattle.pre_compound.proofs.Goal.{here, first-carried, leaf-rule}

module _ {file ends : List ℕ} {Γ : Context} {f c g at : ℕ} where
  module _ (can : CanTry file ends Γ 28 (Pre f c g) at) where
    pub can-imply : CanImplyAt file ends Γ (at + 1) f
    can-imply = record {
      ends_of = can.can.ends_of;
      size = can.can.size;
      few = can.can.few;
      left = first-carried can pre28;
      right = record { tree = (here can).φ; there = (here can).first-at };
    }

    pub stronger_rule : {r : Condition} → ImpliesAt file ends Γ (at + 1) f r → StepOf file ends Γ (Pre f c g) at r
    unfolding pre_rule judge
    stronger_rule {r} implied = pre-rule can pre28 go
      where
        go : PreComes Γ file ends f c g at pre28 r
        go φ φ' e (assertion φ₁ & child k & done) d end x y z (a, (i, k-at, last)) =
            comes _ r refl (implied.is φ₁ φ a x)
            (one-child (up-to (pre-stands a y z k-at) last))

  pub true-rule : CanTry file ends Γ 29 (Pre f c g) at → {b : Bool} → TrueAt file ends f b → {r : Condition} →
      r ≡ condition_of b → StepOf file ends Γ (Pre f c g) at r
  unfolding pre_rule
  true-rule can holds i = leaf-rule can pre29 refl λ φ φ' e x y z. ap childless (sym (tested i (holds.is φ x)))
