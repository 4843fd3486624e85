-- A test that decides a statement: it holds exactly when the statement does.
-- Assumes nothing.
--     Decides                     the law
--     decides_same                two tests of one statement
--     decides_map                 of an equivalent statement
--     decides_and, decides_or     of both, of one of two
--     decides_yes, decides_no     of what holds, of what does not
--     decides_not                 that a test fails
--     decides_implies             that one test passes where another does
--     eqb-decides, leb-decides    equality and order of numbers
use mathlib.Core.Path.{◌≡◌, refl, sym}
use mathlib.Core.Bool.{Bool, true, false, not, ◌&&◌, ◌||◌, false≢true, true≢false}
use mathlib.Core.Logic.{◌⊎◌, inl, inr}
use Prim.Native.Nat.{ℕ, ◌≤◌}
use borrow.Author.Tests.{eqb-true, eq-eqb, leb-true, le-leb}
use lib.Dec.{eqb, leb}
use Rattle.laws.proofs.Bools.{and_left, and_right, and_both, or_cases, or-first, or-second, clash}

pub record Decides (b : Bool) (P : Type 0) : Type 0 where
  pub sound : b ≡ true → P
  pub complete : P → b ≡ true

-- two tests of one statement have one result
pub decides_same : (a b : Bool) {P : Type 0} → Decides a P → Decides b P → a ≡ b
decides_same true b d e = sym (e.complete (d.sound refl))
decides_same false true d e = clash (d.complete (e.sound refl)) refl
decides_same false false d e = refl

pub decides_map : {b : Bool} {P Q : Type 0} → (P → Q) → (Q → P) → Decides b P → Decides b Q
decides_map f g d = record { sound = λ h. f (d.sound h); complete = λ q. d.complete (g q) }

pub decides_and : {a b : Bool} {P Q : Type 0} → Decides a P → Decides b Q → Decides (a && b) (P × Q)
decides_and {a} {b} d e = record {
  sound = λ h. (d.sound (and_left a b h), e.sound (and_right a b h));
  complete = λ x. and_both (d.complete x.0) (e.complete x.1);
}

pub decides_or : {a b : Bool} {P Q : Type 0} → Decides a P → Decides b Q → Decides (a || b) (P ⊎ Q)
decides_or {a} {b} d e = record {
  sound = λ h. elim (or_cases a b h) [ inl k ↦ inl (d.sound k) | inr k ↦ inr (e.sound k) ];
  complete = elim [ inl p ↦ or-first b (d.complete p) | inr q ↦ or-second a (e.complete q) ];
}

pub decides_yes : {P : Type 0} → P → Decides true P
decides_yes p = record { sound = λ h. p; complete = λ q. refl }

pub decides_no : {P : Type 0} → (P → ⊥) → Decides false P
decides_no f = record { sound = λ h. absurd (false≢true h); complete = λ p. absurd (f p) }

pub decides_not : (b : Bool) → Decides (not b) (b ≡ false)
decides_not true = decides_no true≢false
decides_not false = decides_yes refl

pub decides_implies : (a b : Bool) → Decides (not a || b) (a ≡ true → b ≡ true)
decides_implies true b = record { sound = λ h k. h; complete = λ f. f refl }
decides_implies false b = decides_yes (λ h. absurd (false≢true h))

pub eqb-decides : (a b : ℕ) → Decides (eqb a b) (a ≡ b)
eqb-decides a b = record { sound = eqb-true a b; complete = eq-eqb a b }

pub leb-decides : (a b : ℕ) → Decides (leb a b) (a ≤ b)
leb-decides a b = record { sound = leb-true a b; complete = le-leb a b }
