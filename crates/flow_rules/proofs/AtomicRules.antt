-- Commands of one step (document 01, rules 1, 3, 4 and 5).
-- Assumes nothing.
--     can-replace_scalar, can-replace_array, can-assert    what the code asks for
--     not-skip, skip-comes                                 rule 1
--     not_scalar, scalar-comes, not-array, array-comes     rules 3 and 4
--     not-assert, assert-comes                             rule 5
use mathlib.Core.Path.{◌≡◌, refl}
use mathlib.Core.Bool.{Bool}
use mathlib.Core.List.{List}
use Prim.Native.Nat.{ℕ, ◌+◌}
use Rattle.language.specs.Syntax.{Assignment, to_scalar, to_array}
use Rattle.rules.specs.Context.{Context}
use Rattle.rules.specs.Condition.{by_form}
use Rattle.rules.specs.Evidence.{flow1, flow3, flow4, flow5}
use Rattle.rules.specs.Judge.{misfit, flow_rule}
use Rattle.layout.specs.Bytes.{kind_at}
use Rattle.matching.specs.declared.cursor.Put.{Put}
use Rattle.std.specs.Prelude.{Err}
use Rattle.implication.specs.declared.Failure.TheVariants.{Fails}
use Rattle.goals.specs.declared.Goal.TheVariants.{Flow}
use Rattle.goals.specs.Conditions.{condition_of}
use Rattle.goals.specs.Goals.{CanStep, CanTry, StepOf}
use Rattle.goals.proofs.Comes.{misfit-comes, no-children, flow-rule}
use Rattle.rule_laws.proofs.Commands.{putting, right_side, is-skip, is-scalar, is-array, is-assert, other-kind}
use Rattle.rule_laws.proofs.Commands.{other-than_skip, other-than_scalar, other-than_array, other-than_assert}
use Rattle.compare.specs.Trees.{PutStands, put-scalar, put-array}
use Rattle.sets.specs.Rules.{CanReplaced, CanUnder, SameWritten, SameReplaced, SameUnder}
use Rattle.set_laws.proofs.Sets.{has-set}
use Rattle.flow_compound.proofs.Goal.{by-test, no-parts, trees}

module _ {Γ : Context} {file ends : List ℕ} {p c q at : ℕ} where
  module _ (can : CanStep file ends Γ (Flow p c q) at) where
    can-replace : (put : Put) (a : Assignment) → PutStands file ends put a → CanReplaced file ends p q put
    can-replace put a s = record {
      ends_of = can.ends_of;
      first-set = has-set (trees can).before_at;
      second-set = has-set (trees can).after-at;
      right_side = record { tree = a; stands = s };
    }

    pub can-replace_scalar : kind_at file c ≡ 27 → CanReplaced file ends p q (putting file ends c 2)
    can-replace_scalar h =
        let x = is-scalar can.ends_of (trees can).command-at h in
        can-replace _ (to_scalar x.name x.right) (put-scalar (right_side 2 x))

    pub can-replace_array : kind_at file c ≡ 28 → CanReplaced file ends p q (putting file ends c 16)
    can-replace_array h =
        let x = is-array can.ends_of (trees can).command-at h in
        can-replace _ (to_array x.name x.right) (put-array (right_side 16 x))

    pub can-assert : kind_at file c ≡ 26 → CanUnder file ends p q (c + 1)
    can-assert h = record {
      ends_of = can.ends_of;
      first-set = has-set (trees can).before_at;
      second-set = has-set (trees can).after-at;
      test = record { tree = _; there = (is-assert can.ends_of (trees can).command-at h).test_at };
    }

  module _ (can : CanTry file ends Γ 1 (Flow p c q) at) where
    pub not-skip : (kind_at file c ≡ 24 → ⊥) → StepOf file ends Γ (Flow p c q) at (Err Fails)
    unfolding flow_rule
    not-skip h = flow-rule can flow1 λ x y e t d end a k z s. misfit-comes (other-than_skip Γ misfit e _ (other-kind k h))

    pub skip-comes : kind_at file c ≡ 24 → {b : Bool} → SameWritten file ends p q b →
        StepOf file ends Γ (Flow p c q) at (condition_of b)
    unfolding flow_rule by_form
    skip-comes h w = flow-rule can flow1 λ x y e t d end a k z s.
        rw (is-skip k h) (by-test refl (w.does x y a z)
        (no-children (no-parts Γ file ends d t s)))

  module _ (can : CanTry file ends Γ 3 (Flow p c q) at) where
    pub not_scalar : (kind_at file c ≡ 27 → ⊥) → StepOf file ends Γ (Flow p c q) at (Err Fails)
    unfolding flow_rule
    not_scalar h = flow-rule can flow3 λ x y e t d end a k z s. misfit-comes (other-than_scalar Γ misfit e _ (other-kind k h))

    pub scalar-comes : kind_at file c ≡ 27 → {b : Bool} → SameReplaced file ends p q (putting file ends c 2) b →
        StepOf file ends Γ (Flow p c q) at (condition_of b)
    unfolding flow_rule by_form
    scalar-comes h w = flow-rule can flow3 λ x y e t d end a k z s.
        let i = is-scalar can.can.ends_of k h in
        rw i.is (by-test refl (w.does x y _ a z (put-scalar (right_side 2 i)))
        (no-children (no-parts Γ file ends d t s)))

  module _ (can : CanTry file ends Γ 4 (Flow p c q) at) where
    pub not-array : (kind_at file c ≡ 28 → ⊥) → StepOf file ends Γ (Flow p c q) at (Err Fails)
    unfolding flow_rule
    not-array h = flow-rule can flow4 λ x y e t d end a k z s. misfit-comes (other-than_array Γ misfit e _ (other-kind k h))

    pub array-comes : kind_at file c ≡ 28 → {b : Bool} → SameReplaced file ends p q (putting file ends c 16) b →
        StepOf file ends Γ (Flow p c q) at (condition_of b)
    unfolding flow_rule by_form
    array-comes h w = flow-rule can flow4 λ x y e t d end a k z s.
        let i = is-array can.can.ends_of k h in
        rw i.is (by-test refl (w.does x y _ a z (put-array (right_side 16 i)))
        (no-children (no-parts Γ file ends d t s)))

  module _ (can : CanTry file ends Γ 5 (Flow p c q) at) where
    pub not-assert : (kind_at file c ≡ 26 → ⊥) → StepOf file ends Γ (Flow p c q) at (Err Fails)
    unfolding flow_rule
    not-assert h = flow-rule can flow5 λ x y e t d end a k z s. misfit-comes (other-than_assert Γ misfit e _ (other-kind k h))

    pub assert-comes : kind_at file c ≡ 26 → {b : Bool} → SameUnder file ends p q (c + 1) b →
        StepOf file ends Γ (Flow p c q) at (condition_of b)
    unfolding flow_rule by_form
    assert-comes h w = flow-rule can flow5 λ x y e t d end a k z s.
        let i = is-assert can.can.ends_of k h in
        rw i.is (by-test refl
        (w.does x y i.test a z i.test_at)
        (no-children (no-parts Γ file ends d t s)))
