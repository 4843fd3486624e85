-- A condition that is a test, and what is tried after it by `?`.
-- Assumes nothing.
--     ensured, not-ensured    the test passes; it fails
--     is-equal, not-equal     of a test of two numbers
--     exits, exits-unequal    a rule whose test fails answers that its conditions fail
--     by-test                 a rule that such a test decides
use mathlib.Core.Path.{◌≡◌, refl, sym, subst, ◌∙◌}
use mathlib.Core.Bool.{Bool, true, false}
use mathlib.Core.List.{List}
use Prim.Native.Nat.{ℕ}
use native.Mathlib.Omega.{arith}
use borrow.Author.Tests.{eqb-true, eqb-false}
use lib.Dec.{eqb}
use Rattle.std.specs.Prelude.{Ok, Err}
use Rattle.rules.specs.Context.{Context}
use Rattle.implication.specs.Sides.{Condition}
use Rattle.implication.specs.declared.Failure.{Failure}
use Rattle.implication.specs.declared.Failure.TheVariants.{Fails}
use Rattle.goals.specs.Conditions.{condition_of}
use Rattle.goals.specs.Goals.{StepOf}
use Rattle.goals.specs.declared.Goal.{Goal}

apart : {u : Unit {0}} {e : Failure} → ◌≡◌ {A = Condition} (Ok u) (Err e) → ⊥
apart h = let z : ◌≡◌ {A = ℕ} 0 1 = cc in omega (arith, z)

pub ensured : (b : Bool) {u : Unit {0}} → ◌≡◌ {A = Condition} (Ok u) (condition_of b) → b ≡ true
ensured true h = refl
ensured false h = absurd (apart h)

pub not-ensured : (b : Bool) {e : Failure} → ◌≡◌ {A = Condition} (Err e) (condition_of b) → b ≡ false
not-ensured true h = absurd (apart (sym h))
not-ensured false h = refl

failed : (b : Bool) {e : Failure} → ◌≡◌ {A = Condition} (Err e) (condition_of b) → ◌≡◌ {A = Condition} (Err e) (Err Fails)
failed true h = absurd (apart (sym h))
failed false h = h

pub is-equal : {a n : ℕ} {u : Unit {0}} → ◌≡◌ {A = Condition} (Ok u) (condition_of (eqb a n)) → a ≡ n
is-equal {a} {n} h = eqb-true a n (ensured (eqb a n) h)

pub not-equal : {a n : ℕ} {e : Failure} → ◌≡◌ {A = Condition} (Err e) (condition_of (eqb a n)) → a ≡ n → ⊥
not-equal {a} {n} h = eqb-false a n (not-ensured (eqb a n) h)

-- by what `?` returns, and what was ensured
module _ {file ends : List ℕ} {Γ : Context} {goal : Goal} {at : ℕ} {r : Condition} {e : Failure}
    (x : (y : Failure) × (r ≡ Err y) × (y ≡ e)) where
  pub exits : {b : Bool} → ◌≡◌ {A = Condition} (Err e) (condition_of b) →
      (b ≡ false → StepOf file ends Γ goal at (Err Fails)) → StepOf file ends Γ goal at r
  exits {b} h f =
      let is : r ≡ Err Fails = rw x.2 at x.1 ∙ failed b h in
      subst (λ c. StepOf file ends Γ goal at c) (sym is) (f (not-ensured b h))

  pub exits-unequal : {a n : ℕ} → ◌≡◌ {A = Condition} (Err e) (condition_of (eqb a n)) →
      ((a ≡ n → ⊥) → StepOf file ends Γ goal at (Err Fails)) → StepOf file ends Γ goal at r
  exits-unequal {a} {n} h f = exits h λ k. f (not-equal h)

-- a rule that a test of two numbers decides
module _ {file ends : List ℕ} {Γ : Context} {goal : Goal} {at a n : ℕ} {r : Condition} where
  pub by-test : r ≡ condition_of (eqb a n) → ((a ≡ n → ⊥) → StepOf file ends Γ goal at (Err Fails)) →
      (a ≡ n → StepOf file ends Γ goal at (Ok tt)) → StepOf file ends Γ goal at r
  by-test h f g = subst (λ c. StepOf file ends Γ goal at c) (sym h) (go (eqb a n) (λ k. f (eqb-false a n k)) (λ k. g (eqb-true a n k)))
    where
      go : (b : Bool) → (b ≡ false → StepOf file ends Γ goal at (Err Fails)) → (b ≡ true → StepOf file ends Γ goal at (Ok tt)) →
          StepOf file ends Γ goal at (condition_of b)
      go true u v = v refl
      go false u v = u refl
