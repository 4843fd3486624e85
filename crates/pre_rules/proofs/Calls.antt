-- The rule of a call (document 02, rule 32).
-- Assumes nothing.
--     call-fails, call-rule    a command of another form; a call
use mathlib.Core.Path.{◌≡◌, refl, ap}
use mathlib.Core.List.{List}
use Prim.Native.Nat.{ℕ}
use Rattle.std.specs.Prelude.{Ok, Err}
use Rattle.rules.specs.Context.{Context}
use Rattle.rules.specs.Condition.{by_form}
use Rattle.rules.specs.Evidence.{child, done, ◌&◌, pre32}
use Rattle.rules.specs.Judge.{misfit, pre_rule, judge}
use Rattle.layout.specs.Bytes.{kind_at}
use Rattle.implication.specs.declared.Failure.TheVariants.{Fails}
use Rattle.goals.specs.Goals.{CanTry, StepOf, pre-stands}
use Rattle.goals.specs.declared.Goal.TheVariants.{Pre}
use Rattle.goals.proofs.Comes.{comes, one-child, PreComes, pre-rule}
use Rattle.rule_laws.proofs.Commands.{is_call, body_at, other-kind, other-than_call}
use Rattle.rule_laws.proofs.Trying.{up-to}
use Rattle.pre_compound.proofs.Goal.{misfit-rule}

module _ {file ends : List ℕ} {Γ : Context} {f c g at : ℕ} (can : CanTry file ends Γ 32 (Pre f c g) at) where
  pub call-fails : (kind_at file c ≡ 38 → ⊥) → StepOf file ends Γ (Pre f c g) at (Err Fails)
  unfolding pre_rule
  call-fails h = misfit-rule can pre32 λ φ φ' e t y. other-than_call Γ misfit e _ (other-kind y h)

  pub call-rule : kind_at file c ≡ 38 → StepOf file ends Γ (Pre f c g) at (Ok tt)
  unfolding pre_rule judge by_form
  call-rule h = pre-rule can pre32 go
    where
      go : PreComes Γ file ends f c g at pre32 (Ok tt)
      go φ φ' e (child k & done) d end x y z (i, k-at, last) =
          let s = is_call y h in
          comes _ (Ok tt) (ap (λ u. pre_rule Γ pre32 (judge Γ k) φ u φ') s.is) refl
          (one-child (up-to (pre-stands x (body_at can.can.procedures s) z k-at) last))
