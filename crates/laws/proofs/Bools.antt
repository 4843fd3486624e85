-- Tests and their connectives.
-- Assumes nothing.
--     and_left, and_right, and_both           of a conjunction
--     or_cases, or-first, or-second           of a disjunction that is true
--     or_left, or_right                       of one that is false
--     not-true, clash                         of a negation; a test has one result
use mathlib.Core.Path.{◌≡◌, refl, sym, ◌∙◌}
use mathlib.Core.Bool.{Bool, true, false, not, ◌&&◌, ◌||◌, false≢true, true≢false}
use mathlib.Core.Logic.{◌⊎◌, inl, inr}

pub and_left : (a b : Bool) → (a && b) ≡ true → a ≡ true
and_left true b h = refl
and_left false b h = h

pub and_right : (a b : Bool) → (a && b) ≡ true → b ≡ true
and_right true b h = h
and_right false b h = absurd (false≢true h)

pub and_both : {a b : Bool} → a ≡ true → b ≡ true → (a && b) ≡ true
and_both {a} {b} h k = cc

pub or_cases : (a b : Bool) → (a || b) ≡ true → (a ≡ true) ⊎ (b ≡ true)
or_cases true b h = inl refl
or_cases false b h = inr h

-- a disjunction that holds by its left, by its right
pub or-first : {a : Bool} (b : Bool) → a ≡ true → (a || b) ≡ true
or-first {a} b h = cc

pub or-second : (a : Bool) {b : Bool} → b ≡ true → (a || b) ≡ true
or-second true h = refl
or-second false h = h

pub or_left : (a b : Bool) → (a || b) ≡ false → a ≡ false
or_left true b h = h
or_left false b h = refl

pub or_right : (a b : Bool) → (a || b) ≡ false → b ≡ false
or_right true b h = absurd (true≢false h)
or_right false b h = h

pub not-true : (a : Bool) → not a ≡ true → a ≡ false
not-true true h = absurd (false≢true h)
not-true false h = refl

pub clash : {A : Type 0} {a : Bool} → a ≡ true → a ≡ false → A
clash h k = absurd (true≢false (sym h ∙ k))
