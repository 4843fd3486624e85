-- The rule of a sequence (document 01, rule 23).
-- Assumes nothing.
--     sequence-fails, sequence-rule    a command of another form; a sequence
use mathlib.Core.Path.{◌≡◌, refl, ap}
use mathlib.Core.List.{List}
use Prim.Native.Nat.{ℕ}
use Rattle.std.specs.Prelude.{Ok, Err}
use Rattle.rules.specs.Context.{Context}
use Rattle.rules.specs.Condition.{by_form}
use Rattle.rules.specs.Evidence.{assertion, child, done, ◌&◌, pre23}
use Rattle.rules.specs.Judge.{misfit, pre_rule, judge}
use Rattle.layout.specs.Bytes.{kind_at}
use Rattle.implication.specs.declared.Failure.TheVariants.{Fails}
use Rattle.goals.specs.Goals.{CanTry, StepOf, pre-stands}
use Rattle.goals.specs.declared.Goal.TheVariants.{Pre}
use Rattle.goals.proofs.Comes.{comes, two-children, PreComes, pre-rule}
use Rattle.rule_laws.proofs.Commands.{is-sequence, other-kind, other-than_sequence}
use Rattle.rule_laws.proofs.Trying.{up-to}
use Rattle.pre_compound.proofs.Goal.{misfit-rule}

module _ {file ends : List ℕ} {Γ : Context} {f c g at : ℕ} (can : CanTry file ends Γ 23 (Pre f c g) at) where
  pub sequence-fails : (kind_at file c ≡ 25 → ⊥) → StepOf file ends Γ (Pre f c g) at (Err Fails)
  unfolding pre_rule
  sequence-fails h = misfit-rule can pre23 λ φ φ' e t y. other-than_sequence Γ misfit e _ (other-kind y h)

  pub sequence-rule : kind_at file c ≡ 25 → StepOf file ends Γ (Pre f c g) at (Ok tt)
  unfolding pre_rule judge by_form
  sequence-rule h = pre-rule can pre23 go
    where
      go : PreComes Γ file ends f c g at pre23 (Ok tt)
      go φ φ' e (assertion φ₁ & child k & child l & done) d end x y z (a, (i, k-at, (m, l-at, last))) =
          let s = is-sequence can.can.ends_of y h in
          comes _ (Ok tt) (ap (λ u. pre_rule Γ pre23 φ₁ (judge Γ k) (judge Γ l) φ u φ') s.is) refl
          (two-children (pre-stands x s.first-at a k-at)
          (up-to (pre-stands a s.second_at z l-at) last))
