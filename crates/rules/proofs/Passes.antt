-- A condition that passes (`Result` of `Condition`) exactly when a statement holds.
-- Assumes nothing.
--     Passes                                the condition passes
--     then-first, then-second, then-both    of conditions tried one after the other
--     PassesIff, passes-map                 it passes exactly when a statement holds; an equivalent one
--     test-passes, then-passes              of a test; of conditions tried one after the other
use mathlib.Core.Path.{◌≡◌, refl}
use mathlib.Core.Bool.{Bool, true, false}
use Rattle.laws.proofs.Decides.{Decides}
use Rattle.rules.specs.Condition.{Result, passes, fails, too_large, test, ◌then◌}

abbrev pub Passes : Result → Type 0
Passes passes = Unit {0}
Passes fails = ⊥
Passes too_large = ⊥

pub then-first : (q r : Result) → Passes (q then r) → Passes q
unfolding ◌then◌
then-first passes r h = tt
then-first fails r h = h
then-first too_large r h = h

pub then-second : (q r : Result) → Passes (q then r) → Passes r
unfolding ◌then◌
then-second passes r h = h
then-second fails r h = absurd h
then-second too_large r h = absurd h

pub then-both : (q r : Result) → Passes q → Passes r → Passes (q then r)
unfolding ◌then◌
then-both passes r g h = h
then-both fails r g h = g
then-both too_large r g h = g

pub record PassesIff (r : Result) (P : Type 0) : Type 0 where
  pub sound : Passes r → P
  pub complete : P → Passes r

pub passes-map : {r : Result} {P Q : Type 0} → (P → Q) → (Q → P) → PassesIff r P → PassesIff r Q
passes-map f g d = record { sound = λ h. f (d.sound h); complete = λ q. d.complete (g q) }

-- a test passes where it is true
test-true : (b : Bool) → Passes (test b) → b ≡ true
unfolding test
test-true true h = refl
test-true false h = absurd h

true-test : {b : Bool} → b ≡ true → Passes (test b)
unfolding test
true-test h = rw h tt

pub test-passes : {b : Bool} {P : Type 0} → Decides b P → PassesIff (test b) P
test-passes {b} d = record { sound = λ h. d.sound (test-true b h); complete = λ p. true-test (d.complete p) }

pub then-passes : {q r : Result} {P Q : Type 0} →
    PassesIff q P → PassesIff r Q → PassesIff (q then r) (P × Q)
then-passes {q} {r} d e = record {
  sound = λ h. (d.sound (then-first q r h), e.sound (then-second q r h));
  complete = λ x. then-both q r (d.complete x.0) (e.complete x.1);
}
