-- The rules of commands of one step (document 01, rules 22, 24, 25 and 26).
-- Assumes nothing.
--     skip-fails, skip_rule                      rule 22
--     can-scalar, scalar-fails, scalar-rule      rule 24
--     can-array, array-fails, array-rule         rule 25
--     can-join, assert-fails, assert-rule        rule 26
use mathlib.Core.Path.{◌≡◌, refl, sym, ap, ◌∙◌}
use mathlib.Core.Bool.{Bool}
use mathlib.Core.List.{List}
use Prim.Native.Nat.{ℕ, ◌+◌}
use Rattle.language.specs.Syntax.{Assignment, to_scalar, to_array}
use Rattle.std.specs.Prelude.{Err}
use Rattle.rules.specs.Context.{Context}
use Rattle.rules.specs.Condition.{by_form}
use Rattle.rules.specs.Evidence.{pre22, pre24, pre25, pre26}
use Rattle.rules.specs.Judge.{misfit, childless, pre_rule}
use Rattle.layout.specs.Bytes.{kind_at, payload_at, word_of}
use Rattle.implication.specs.Sides.{Condition}
use Rattle.implication.specs.declared.Failure.TheVariants.{Fails}
use Rattle.goals.specs.Conditions.{condition_of}
use Rattle.goals.specs.Goals.{CanTry, StepOf}
use Rattle.goals.specs.declared.Goal.TheVariants.{Pre}
use Rattle.rule_laws.specs.Sameness.{SameAssertionAt}
use Rattle.rule_laws.proofs.Commands.{right_side, is-skip, is-scalar, is-array, is-assert, other-kind, other-than_skip}
use Rattle.rule_laws.proofs.Commands.{other-than_scalar, other-than_array, other-than_assert}
use Rattle.rule_laws.proofs.Trying.{tested}
use Rattle.compare.specs.Trees.{PutStands, put-scalar, put-array}
use Rattle.pre_compound.specs.Conditions.{CanJoin, right_at, CanReplace, JoinAt, ReplacedAt}
use Rattle.pre_compound.proofs.Goal.{here, first-boolean, second-boolean, leaf-rule}

module _ {file ends : List ℕ} {Γ : Context} {f c g at : ℕ} where
  module _ (can : CanTry file ends Γ 22 (Pre f c g) at) where
    pub skip-fails : (kind_at file c ≡ 24 → ⊥) → StepOf file ends Γ (Pre f c g) at (Err Fails)
    unfolding pre_rule
    skip-fails h = leaf-rule can pre22 refl λ φ φ' e x y z. other-than_skip Γ misfit e _ (other-kind y h)

    pub skip_rule : kind_at file c ≡ 24 → {b : Bool} → SameAssertionAt file ends f g b → {r : Condition} → r ≡ condition_of b →
        StepOf file ends Γ (Pre f c g) at r
    unfolding pre_rule by_form
    skip_rule h same i = leaf-rule can pre22 refl λ φ φ' e x y z.
        ap (λ u. pre_rule Γ pre22 φ u φ') (is-skip y h) ∙ ap childless (sym (tested i (same.is φ φ' x z)))

  replaceable : {n w : ℕ} → CanTry file ends Γ n (Pre f c g) at → (a : Assignment) → PutStands file ends (right_at ends w (c + 1)) a →
      CanReplace file ends f g w (c + 1)
  replaceable can a s = record {
    ends_of = can.can.ends_of;
    whole = first-boolean can;
    replaced = second-boolean can;
    right = record { tree = a; stands = s };
  }

  module _ (can : CanTry file ends Γ 24 (Pre f c g) at) where
    pub scalar-fails : (kind_at file c ≡ 27 → ⊥) → StepOf file ends Γ (Pre f c g) at (Err Fails)
    unfolding pre_rule
    scalar-fails h = leaf-rule can pre24 refl λ φ φ' e x y z. other-than_scalar Γ misfit e _ (other-kind y h)

    module _ (h : kind_at file c ≡ 27) where
      pub can-scalar : CanReplace file ends f g (word_of 2 (payload_at file c)) (c + 1)
      can-scalar =
          let x = is-scalar can.can.ends_of (here can).command-at h in
          replaceable can (to_scalar x.name x.right) (put-scalar (right_side 2 x))

      -- the word 2:x
      pub scalar-rule : {b : Bool} → ReplacedAt file ends f g (word_of 2 (payload_at file c)) (c + 1) b →
          {r : Condition} → r ≡ condition_of b → StepOf file ends Γ (Pre f c g) at r
      unfolding pre_rule by_form
      scalar-rule replaced i = leaf-rule can pre24 refl λ φ φ' e x y z.
          let a = is-scalar can.can.ends_of y h in
          let is = replaced.is φ φ' (to_scalar a.name a.right) x z (put-scalar (right_side 2 a)) in
          ap (λ u. pre_rule Γ pre24 φ u φ') a.is ∙ ap childless (sym (tested i is))

  module _ (can : CanTry file ends Γ 25 (Pre f c g) at) where
    pub array-fails : (kind_at file c ≡ 28 → ⊥) → StepOf file ends Γ (Pre f c g) at (Err Fails)
    unfolding pre_rule
    array-fails h = leaf-rule can pre25 refl λ φ φ' e x y z. other-than_array Γ misfit e _ (other-kind y h)

    module _ (h : kind_at file c ≡ 28) where
      pub can-array : CanReplace file ends f g (word_of 16 (payload_at file c)) (c + 1)
      can-array =
          let x = is-array can.can.ends_of (here can).command-at h in
          replaceable can (to_array x.name x.right) (put-array (right_side 16 x))

      -- the word 16:a
      pub array-rule : {b : Bool} → ReplacedAt file ends f g (word_of 16 (payload_at file c)) (c + 1) b →
          {r : Condition} → r ≡ condition_of b → StepOf file ends Γ (Pre f c g) at r
      unfolding pre_rule by_form
      array-rule replaced i = leaf-rule can pre25 refl λ φ φ' e x y z.
          let a = is-array can.can.ends_of y h in
          let is = replaced.is φ φ' (to_array a.name a.right) x z (put-array (right_side 16 a)) in
          ap (λ u. pre_rule Γ pre25 φ u φ') a.is ∙ ap childless (sym (tested i is))

  module _ (can : CanTry file ends Γ 26 (Pre f c g) at) where
    pub assert-fails : (kind_at file c ≡ 26 → ⊥) → StepOf file ends Γ (Pre f c g) at (Err Fails)
    unfolding pre_rule
    assert-fails h = leaf-rule can pre26 refl λ φ φ' e x y z. other-than_assert Γ misfit e _ (other-kind y h)

    module _ (h : kind_at file c ≡ 26) where
      pub can-join : CanJoin file ends f g (c + 1)
      can-join =
          let o = can.can.ends_of in
          record {
            ends_of = o;
            whole = first-boolean can;
            first = second-boolean can;
            test = record { tree = _; there = (is-assert o (here can).command-at h).test_at };
          }

      pub assert-rule : {b : Bool} → JoinAt file ends f g (c + 1) b → {r : Condition} → r ≡ condition_of b →
          StepOf file ends Γ (Pre f c g) at r
      unfolding pre_rule by_form
      assert-rule join i = leaf-rule can pre26 refl λ φ φ' e x y z.
          let a = is-assert can.can.ends_of y h in
          ap (λ u. pre_rule Γ pre26 φ u φ') a.is ∙ ap childless (sym (tested i (join.is φ φ' a.test x z a.test_at)))
