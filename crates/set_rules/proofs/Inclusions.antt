-- Rule 13 of sets: each of Q stands in P.
-- Assumes nothing.
--     can-see, within-at          the test of the two sets
--     within-rule                 the rule
use mathlib.Core.Path.{◌≡◌, refl, sym, ap, ap₂, subst, ◌∙◌}
use mathlib.Core.Bool.{Bool}
use mathlib.Core.List.{List}
use Prim.Native.Nat.{ℕ, ◌+◌}
use Rattle.rules.specs.Assertion.{Members}
use Rattle.rules.specs.Context.{Context}
use Rattle.rules.specs.Evidence.{set13}
use Rattle.rules.specs.Judge.{childless, set_rule}
use Rattle.implication.specs.Sides.{Condition}
use Rattle.goals.specs.Conditions.{condition_of}
use Rattle.goals.specs.Goals.{CanTry, StepOf}
use Rattle.goals.specs.declared.Goal.TheVariants.{Set}
use Rattle.rule_laws.proofs.Trying.{tested}
use Rattle.sets.specs.Lists.{seen_all, within_all}
use Rattle.sets.specs.Standing.{ViewAt, CanHold}
use Rattle.sets.specs.Piles.{count_at, pile_numbers}
use Rattle.ends.specs.Places.{SetAt}
use Rattle.sets.specs.Trees.{stands-written}
use Rattle.sets.specs.declared.item.View.TheVariants.{AsWritten}
use Rattle.sets.proofs.Piles.{set-members}
use Rattle.sets.proofs.Tests.{within-numbers}
use Rattle.sets.proofs.Trees.{AllShown, set-place, pile_is}
use Rattle.set_rules.specs.Conditions.{CanInclude, WithinAt}
use Rattle.set_unions.proofs.Goal.{leaf-rule}

module _ {file ends : List ℕ} {q p j k : ℕ} (can : CanInclude file ends q p) (h : j ≡ count_at file q)
    (i : k ≡ count_at file p) where
  pub can-see : CanHold file ends j (q + 1) AsWritten k (p + 1)
  unfolding ViewAt
  can-see = record {
    ends_of = can.ends_of;
    part = set-members (set-place can.ends_of can.part.there) h;
    view_at = tt;
    members = set-members (set-place can.ends_of can.whole.there) i;
  }

  shown : {Γ : Context} {x : Members} {at n : ℕ} → SetAt file ends Γ x at → n ≡ count_at file at →
      AllShown file ends (seen_all file ends AsWritten n (at + 1)) x
  unfolding pile_numbers
  shown {x = x} {at} s e =
      subst (λ n. AllShown file ends (seen_all file ends AsWritten n (at + 1)) x) (sym e)
      (pile_is can.ends_of (stands-written s)).shown

  pub within-at : {r : Bool} → r ≡ within_all (seen_all file ends AsWritten j (q + 1)) (seen_all file ends AsWritten k (p + 1)) →
      WithinAt file ends q p r
  within-at e = record {
    is = λ Γ x y a b.
        let u = shown a h in
        let v = shown b i in
        e ∙ ap₂ within_all u.numbers-are v.numbers-are ∙ sym (within-numbers x y u.fit_all v.fit_all);
  }

module _ {file ends : List ℕ} {Γ : Context} {p q at : ℕ} (can : CanTry file ends Γ 13 (Set p q) at) where
  pub within-rule : {b : Bool} → WithinAt file ends q p b → {c : Condition} → c ≡ condition_of b →
      StepOf file ends Γ (Set p q) at c
  unfolding set_rule
  within-rule w e = leaf-rule can set13 refl λ x y a b. ap childless (sym (tested e (w.is Γ y x b a)))
