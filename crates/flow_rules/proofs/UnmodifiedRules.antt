-- What the command does not modify (document 01, rules 10 and 11).
-- Assumes nothing.
--     can-keep_set, not_same, set-kept               rule 10: what the code asks for; what the rule comes to
--     can-same, can-keep                             rule 11: what the code asks for
--     not-one_before, not-one_after, other-consequent, consequent-kept
--                                                    what it comes to
use mathlib.Core.Path.{◌≡◌, refl, sym, ◌∙◌}
use mathlib.Core.Bool.{Bool, true, false}
use mathlib.Core.List.{List}
use Prim.Native.Nat.{ℕ, ◌+◌}
use Rattle.rules.specs.Context.{Context}
use Rattle.rules.specs.Condition.{on_one}
use Rattle.rules.specs.Evidence.{flow10, flow11, child, done, ◌&◌}
use Rattle.rules.specs.Judge.{misfit, flow_rule, judge}
use Rattle.ends.specs.Places.{end_at}
use Rattle.masks.specs.Filled.{MasksOf}
use Rattle.std.specs.Prelude.{Err}
use Rattle.implication.specs.declared.Failure.TheVariants.{Fails}
use Rattle.goals.specs.declared.Goal.TheVariants.{Flow}
use Rattle.goals.specs.Conditions.{condition_of}
use Rattle.goals.specs.Goals.{pre-stands, CanTry, StepOf}
use Rattle.ends.proofs.Places.{known-to, node_known}
use Rattle.goals.proofs.Comes.{misfit-comes, no-children, one-child, FlowComes, flow-rule}
use Rattle.rule_laws.specs.Sameness.{CanSame, SameAt, CanKeep, KeptAt}
use Rattle.rule_laws.proofs.Trying.{up-to}
use Rattle.sets.specs.Piles.{count_at}
use Rattle.sets.specs.Rules.{SameWritten}
use Rattle.set_laws.proofs.Sets.{is_one, not-one}
use Rattle.flow_compound.proofs.Goal.{first-fails, second-test, no-parts, trees}

module _ {Γ : Context} {file ends : List ℕ} {p c q at : ℕ} (can : CanTry file ends Γ 10 (Flow p c q) at) where
  pub can-keep_set : {masks : List ℕ} → MasksOf file ends masks → CanKeep file ends masks q c
  can-keep_set m = record {
    ends_of = can.can.ends_of;
    masks-of = m;
    part = node_known can.can.ends_of (trees can.can).after-at;
    command = node_known can.can.ends_of (trees can.can).command-at.there;
  }

  module _ {a : Bool} (u : SameWritten file ends p q a) where
    pub not_same : a ≡ false → StepOf file ends Γ (Flow p c q) at (Err Fails)
    unfolding flow_rule
    not_same h = flow-rule can flow10 λ x y e t d end f g z s.
        first-fails _ refl (u.does x y f z) h

    pub set-kept : a ≡ true → {b : Bool} → KeptAt file ends q c b → StepOf file ends Γ (Flow p c q) at (condition_of b)
    unfolding flow_rule
    set-kept h w = flow-rule can flow10 λ x y e t d end f g z s.
        second-test refl (sym (u.does x y f z) ∙ h) (w.set Γ can.can.procedures y e z g)
        (no-children (no-parts Γ file ends d t s))

module _ {Γ : Context} {file ends : List ℕ} {p c q at : ℕ} (can : CanTry file ends Γ 11 (Flow p c q) at) where
  pub not-one_before : (count_at file p ≡ 1 → ⊥) → StepOf file ends Γ (Flow p c q) at (Err Fails)
  unfolding flow_rule
  not-one_before n = flow-rule can flow11 λ x y e t d end f g z s. misfit-comes (not-one f misfit _ n)

  module _ (one : count_at file p ≡ 1) where
    pub not-one_after : (count_at file q ≡ 1 → ⊥) → StepOf file ends Γ (Flow p c q) at (Err Fails)
    unfolding flow_rule on_one
    not-one_after n = flow-rule can flow11 λ x y e t d end f g z s.
        rw (is_one f can.can.ends_of one).is (misfit-comes (not-one z misfit _ n))

    pub can-keep : {masks : List ℕ} → MasksOf file ends masks → {i : ℕ} → i ≡ end_at ends (p + 1) → CanKeep file ends masks i c
    can-keep m e =
        let o = can.can.ends_of in
        record {
          ends_of = o;
          masks-of = m;
          part = known-to e (node_known o (is_one (trees can.can).before_at o one).only_at.consequent-at);
          command = node_known o (trees can.can).command-at.there;
        }

    module _ (alone : count_at file q ≡ 1) where
      pub can-same : CanSame file ends (end_at ends (p + 1)) (end_at ends (q + 1))
      can-same =
          let o = can.can.ends_of in
          record {
            first = node_known o (is_one (trees can.can).before_at o one).only_at.consequent-at;
            second = node_known o (is_one (trees can.can).after-at o alone).only_at.consequent-at;
          }

      module _ {a : Bool} (u : SameAt file ends (end_at ends (p + 1)) (end_at ends (q + 1)) a) where
        pub other-consequent : a ≡ false → StepOf file ends Γ (Flow p c q) at (Err Fails)
        unfolding flow_rule on_one
        other-consequent h = flow-rule can flow11 λ x y e t d end f g z s.
            let m = is_one f can.can.ends_of one in
            let n = is_one z can.can.ends_of alone in
            rw (m.is, n.is) (first-fails _ refl (u.is _ _ m.only_at.consequent-at n.only_at.consequent-at) h)

        kept : a ≡ true → {b : Bool} → KeptAt file ends (end_at ends (p + 1)) c b →
            FlowComes Γ file ends p c q at flow11 (condition_of b)
        unfolding flow_rule judge on_one
        kept h w x y e (child k & done) d end f g z (i, k-at, last) =
            let m = is_one f can.can.ends_of one in
            let n = is_one z can.can.ends_of alone in
            rw (m.is, n.is) (second-test refl
            (sym (u.is _ _ m.only_at.consequent-at n.only_at.consequent-at) ∙ h)
            (w.expression Γ can.can.procedures m.only.consequent e m.only_at.consequent-at g)
            (one-child (up-to (pre-stands m.only_at.antecedent-at g n.only_at.antecedent-at k-at) last)))

        pub consequent-kept : a ≡ true → {b : Bool} → KeptAt file ends (end_at ends (p + 1)) c b →
            StepOf file ends Γ (Flow p c q) at (condition_of b)
        consequent-kept h w = flow-rule can flow11 (kept h w)
