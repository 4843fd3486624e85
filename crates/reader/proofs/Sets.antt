-- Members one after the other.
-- Assumes nothing.
--     several-walk   the walk of a number of parts
--     members-all, members-next, members-stop, members-done
--                    as the loop has them
use mathlib.Core.Path.{◌≡◌, refl, sym, ◌∙◌}
use mathlib.Core.List.{List, ◌∷◌}
use Prim.Native.Nat.{ℕ, suc, ◌+◌, ◌-◌, ◌<◌, ◌≤◌}
use native.Mathlib.Omega.{arith}
use Rattle.std.specs.Prelude.{Ok, Err}
use Rattle.layout.specs.Reading.{Reading, read, fault, Reader, on_read, several}
use Rattle.context.specs.declared.Refusal.{Refusal}
use Rattle.reader.specs.Walk.{Walk, walk_of, onward}
use Rattle.reader.proofs.Walks.{on, off}

module _ {A : Type 0} (x : Reader A) where
  pub several-walk : (n at : ℕ) → walk_of (several (suc n) x at) ≡ onward (walk_of (x at)) (λ p. walk_of (several n x p))
  unfolding several
  several-walk n at = go (x at)
    where
      last : (a : A) (y : Reading (List A)) → walk_of (on_read y λ l q. read (a ∷ l) q) ≡ walk_of y
      last a (read l q) = refl
      last a (fault k q) = refl

      go : (z : Reading A) →
          walk_of (on_read z λ a p. on_read (several n x p) λ l q. read (a ∷ l) q)
          ≡ onward (walk_of z) (λ p. walk_of (several n x p))
      go (read a p) = last a (several n x p)
      go (fault k p) = refl

  left : (n i : ℕ) → i < n → n - i ≡ suc (n - (i + 1))
  left n i h = omega arith

  pub members-all : (n p : ℕ) → walk_of (several n x p) ≡ walk_of (several (n - 0) x p)
  members-all n p = let e : n - 0 ≡ n = omega arith in rw e

  pub members-next : (n i p : ℕ) {q : ℕ} → i < n → Ok q ≡ walk_of (x p) →
      walk_of (several (n - i) x p) ≡ walk_of (several (n - (i + 1)) x q)
  members-next n i p h e =
      let k : ℕ → Walk = λ y. walk_of (several (n - (i + 1)) x y) in
      rw (left n i h) (several-walk (n - (i + 1)) p ∙ sym (on k e refl))

  pub members-stop : (n i p : ℕ) {k : Refusal} → i < n → Err k ≡ walk_of (x p) → Err k ≡ walk_of (several (n - i) x p)
  members-stop n i p h e =
      let k : ℕ → Walk = λ y. walk_of (several (n - (i + 1)) x y) in
      rw (left n i h) (off k e ∙ sym (several-walk (n - (i + 1)) p))

  pub members-done : (n i p : ℕ) → n ≤ i → walk_of (several (n - i) x p) ≡ Ok p
  unfolding several
  members-done n i p h = let e : n - i ≡ 0 = omega arith in rw e
