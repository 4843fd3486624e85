-- A run changes only what its command modifies.
-- Assumes nothing.
--     kept    an identifier that is not modified has one value before and after
use mathlib.Core.Path.{◌≡◌, refl, sym, ◌∙◌, ap}
use mathlib.Core.Bool.{Bool, true, false, ◌||◌, cond}
use Prim.Native.Nat.{ℕ}
use Rattle.laws.proofs.Bools.{or_left, or_right}
use Rattle.language.specs.Syntax.{Assignment, to_scalar, to_array, Command}
use Rattle.language.specs.Store.{Store}
use Rattle.language.specs.Runs.{assigned, Runs, runs_skip, runs_sequence, runs_assert, runs_assign, runs_then}
use Rattle.language.specs.Runs.{runs_else, runs_done, runs_again, runs_for, runs_call}
use Rattle.language.specs.Modifies.{Identifier, scalar_of, array_of, same_identifier, target, modifies}
use Rattle.language.proofs.Values.{InBoth}

chain : (s t u : Store) (x : Identifier) → InBoth s t x → InBoth t u x → InBoth s u x
chain s t u (scalar_of x) h k = h ∙ k
chain s t u (array_of a) h k = h ∙ k

itself : (s : Store) (x : Identifier) → InBoth s s x
itself s (scalar_of x) = refl
itself s (array_of a) = refl

other : {A : Type 0} (b : Bool) (v w : A) → b ≡ false → w ≡ cond b v w
other b v w h = sym (ap (λ b. cond b v w) h)

kept-assigned : (a : Assignment) (s : Store) (x : Identifier) →
    same_identifier (target a) x ≡ false → InBoth s (assigned a s) x
kept-assigned (to_scalar y e) s (scalar_of x) h = other _ _ _ h
kept-assigned (to_scalar y e) s (array_of a) h = refl
kept-assigned (to_array b e) s (scalar_of x) h = refl
kept-assigned (to_array b e) s (array_of a) h = other _ _ _ h

-- what a `for` leaves alone, its meaning leaves alone
for-false : (a b : Bool) → (a || b) ≡ false → (a || (b || a)) ≡ false
for-false true b h = h
for-false false true h = h
for-false false false h = h

pub kept : {c : Command} {n : ℕ} {s t : Store} (x : Identifier) → Runs c n s t → modifies c x ≡ false → InBoth s t x
kept {s = s} x runs_skip h = itself s x
kept x (runs_sequence {c = c} r q) h = chain _ _ _ x (kept x r (or_left _ _ h)) (kept x q (or_right (modifies c x) _ h))
kept {s = s} x (runs_assert e) h = itself s x
kept {s = s} x (runs_assign {a = a}) h = kept-assigned a s x h
kept x (runs_then e r) h = kept x r (or_left _ _ h)
kept x (runs_else {c = c} e r) h = kept x r (or_right (modifies c x) _ h)
kept {s = s} x (runs_done e) h = itself s x
kept x (runs_again e r q) h = chain _ _ _ x (kept x r h) (kept x q h)
kept x (runs_for {q = q} {c = c} r) h = kept x r (for-false (same_identifier (scalar_of q) x) (modifies c x) h)
kept x (runs_call r) h = kept x r h
