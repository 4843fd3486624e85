-- The two implications of rule 21 (document 01).
-- Assumes nothing.
--     can-first, can-second          calls of `implies` for the two conditions
--     repeats_first, repeats_both    what they answer; a first condition that does not pass settles
use Rattle.std.specs.Prelude.{Ok, Err}
use Rattle.implication.specs.declared.Failure.{Failure}
use Rattle.implication.specs.declared.Failure.TheVariants.{Fails, TooLarge}
use mathlib.Core.Path.{◌≡◌, refl, sym, ap, ◌∙◌}
use mathlib.Core.List.{List}
use Prim.Native.Nat.{ℕ}
use native.Mathlib.Omega.{arith}
use Rattle.language.specs.Syntax.{Boolean, Expr, and, neg}
use Rattle.rules.specs.Context.{Context}
use Rattle.rules.specs.Condition.{Result, ◌then◌, implication}
use Rattle.ends.specs.Places.{end_at, WrittenAt}
use Rattle.implication.specs.Sides.{Condition, result_of, CanImply, Implied}
use Rattle.implication.specs.declared.Side.TheVariants.{One, Both, BothNot}
use Rattle.rule_laws.proofs.Implying.{deep}
use Rattle.pre_compound.specs.Conditions.{CanRepeat, RepeatsAt}

-- failure and size absorb what follows
settled : (e : Failure) (s : Result) → (result_of (Err e) then s) ≡ result_of (Err e)
unfolding ◌then◌
settled Fails s = refl
settled TooLarge s = refl

-- the two conditions of rule 21, with φ0 at a, the test at b, φ' at g and φ at f
module _ {file ends : List ℕ} {limit a b f p q to : ℕ} (e : p ≡ end_at ends a) (h : q ≡ end_at ends b)
    (i : to ≡ end_at ends f) where
  pub can-first : {g : ℕ} → CanRepeat file ends limit a b g f → CanImply file (Both a p b q) (One f to) limit
  can-first c = record {
    φ = and c.first.tree c.test.tree;
    ψ = c.whole.tree;
    levels = 256;
    low = omega arith;
    left_stands = record {
      first = c.first.tree;
      second = c.test.tree;
      is = refl;
      left = deep e c.first.there;
      right = deep h c.test.there;
    };
    right_stands = deep i c.whole.there;
    size = c.size;
    few = c.few;
  }

  module _ {first : Condition} (x : Implied file (Both a p b q) (One f to) limit first) where
    -- the first condition
    answer : (φ₀ t φ : Expr Boolean) → WrittenAt file ends φ₀ a → WrittenAt file ends t b → WrittenAt file ends φ f →
        (Γ : Context) → Γ.limits.comparisons ≡ limit → result_of first ≡ implication Γ (and φ₀ t) φ
    answer φ₀ t φ u v z Γ l =
        x.is (and φ₀ t) φ 256 256
        (record { first = φ₀; second = t; is = refl; left = deep e u; right = deep h v })
        (deep i z) Γ l

    -- it does not pass
    pub repeats_first : {g : ℕ} {e : Failure} {r : Condition} → first ≡ Err e → (y : Failure) × (r ≡ Err y) × (y ≡ e) →
        RepeatsAt file ends limit a b g f r
    repeats_first {e = e} k out = record {
      is = λ φ₀ t φ' φ u v y z Γ l.
          ap result_of (out.1 ∙ ap Err out.2)
          ∙ sym (settled e (implication Γ (and φ' (neg t)) φ))
          ∙ ap (λ (j : Result). j then implication Γ (and φ' (neg t)) φ)
          (ap result_of (sym k) ∙ answer φ₀ t φ u v z Γ l);
    }

    module _ {g past : ℕ} (j : past ≡ end_at ends g) where
      pub can-second : CanRepeat file ends limit a b g f → CanImply file (BothNot g past b q) (One f to) limit
      can-second c = record {
        φ = and c.second.tree (neg c.test.tree);
        ψ = c.whole.tree;
        levels = 256;
        low = omega arith;
        left_stands = record {
          first = c.second.tree;
          second = c.test.tree;
          is = refl;
          left = deep j c.second.there;
          right = deep h c.test.there;
        };
        right_stands = deep i c.whole.there;
        size = c.size;
        few = c.few;
      }

      -- it passes, and the second condition settles
      pub repeats_both : first ≡ Ok tt → {r : Condition} → Implied file (BothNot g past b q) (One f to) limit r →
          RepeatsAt file ends limit a b g f r
      unfolding ◌then◌
      repeats_both k y = record {
        is = λ φ₀ t φ' φ u v w z Γ l.
            y.is (and φ' (neg t)) φ 256 256
            (record { first = φ'; second = t; is = refl; left = deep j w; right = deep h v })
            (deep i z) Γ l
            ∙ ap (λ (s : Result). s then implication Γ (and φ' (neg t)) φ)
            (ap result_of (sym k) ∙ answer φ₀ t φ u v z Γ l);
      }
