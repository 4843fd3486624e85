-- A call of a procedure, by its contract (document 02, rule 31).
-- Assumes nothing.
--     pre_at, post_at                  where the contract of the procedure stands
--     not_call                       a command of another form
--     can-pre, can-post              what the code asks for
--     other-pre, call-comes          what the rule comes to
use mathlib.Core.Path.{◌≡◌, refl, sym, ◌∙◌}
use mathlib.Core.Bool.{Bool, true, false}
use mathlib.Core.List.{List}
use Prim.Native.Nat.{ℕ}
use Rattle.rules.specs.Context.{Context}
use Rattle.rules.specs.Condition.{by_form, on_some}
use Rattle.rules.specs.Evidence.{flow31}
use Rattle.rules.specs.Judge.{misfit, flow_rule}
use Rattle.layout.specs.Bytes.{kind_at, payload_at}
use Rattle.ends.specs.Places.{end_at}
use Rattle.ends.specs.Procedures.{start_at}
use Rattle.std.specs.Prelude.{Err}
use Rattle.implication.specs.declared.Failure.TheVariants.{Fails}
use Rattle.goals.specs.declared.Goal.TheVariants.{Flow}
use Rattle.goals.specs.Conditions.{condition_of}
use Rattle.goals.specs.Goals.{CanTry, StepOf}
use Rattle.goals.proofs.Comes.{misfit-comes, no-children, flow-rule}
use Rattle.rule_laws.proofs.Commands.{is_call, procedure-at, other-kind, other-than_call}
use Rattle.sets.specs.Rules.{CanTwo, SameWritten}
use Rattle.set_laws.proofs.Sets.{has-set}
use Rattle.flow_compound.proofs.Goal.{first-fails, second-test, no-parts, trees}

-- of the procedure that the call at c names
abbrev pub pre_at : List ℕ → List ℕ → ℕ → ℕ
pre_at file ends c = end_at ends (start_at file ends (payload_at file c))

abbrev pub post_at : List ℕ → List ℕ → ℕ → ℕ
post_at file ends c = end_at ends (pre_at file ends c)

module _ {Γ : Context} {file ends : List ℕ} {p c q at : ℕ} (can : CanTry file ends Γ 31 (Flow p c q) at) where
  pub not_call : (kind_at file c ≡ 38 → ⊥) → StepOf file ends Γ (Flow p c q) at (Err Fails)
  unfolding flow_rule
  not_call h = flow-rule can flow31 λ x y e t d end f g z s. misfit-comes (other-than_call Γ misfit e _ (other-kind g h))

  module _ (h : kind_at file c ≡ 38) where
    pub can-pre : CanTwo file ends p (pre_at file ends c)
    can-pre = record {
      ends_of = can.can.ends_of;
      first-set = has-set (trees can.can).before_at;
      second-set = has-set (procedure-at can.can.procedures (is_call (trees can.can).command-at h)).pre;
    }

    pub can-post : CanTwo file ends q (post_at file ends c)
    can-post = record {
      ends_of = can.can.ends_of;
      first-set = has-set (trees can.can).after-at;
      second-set = has-set (procedure-at can.can.procedures (is_call (trees can.can).command-at h)).post;
    }

    module _ {a : Bool} (u : SameWritten file ends p (pre_at file ends c) a) where
      pub other-pre : a ≡ false → StepOf file ends Γ (Flow p c q) at (Err Fails)
      unfolding flow_rule by_form on_some
      other-pre n = flow-rule can flow31 λ x y e t d end f g z s.
          let l = is_call g h in
          rw (l.is, l.listed) (first-fails _ refl (u.does x _ f (procedure-at can.can.procedures l).pre) n)

      pub call-comes : a ≡ true → {b : Bool} → SameWritten file ends q (post_at file ends c) b →
          StepOf file ends Γ (Flow p c q) at (condition_of b)
      unfolding flow_rule by_form on_some
      call-comes n w = flow-rule can flow31 λ x y e t d end f g z s.
          let l = is_call g h in
          let k = procedure-at can.can.procedures l in
          rw (l.is, l.listed) (second-test refl (sym (u.does x _ f k.pre) ∙ n) (w.does y _ z k.post)
          (no-children (no-parts Γ file ends d t s)))
