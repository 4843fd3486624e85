-- A written set by its count and its members (document 01, "One member always means one written member").
-- Assumes nothing.
--     has-set                         a set at a place, as the comparison of sets takes it
--     is-empty, not-empty             a set with no member, or as all the others
--     is_one, not-one                 a set of one member, or as all the others
use mathlib.Core.Path.{◌≡◌, refl, sym, ◌∙◌}
use mathlib.Core.List.{List, [], ◌∷◌}
use Prim.Native.Nat.{ℕ, ◌+◌}
use native.Mathlib.Omega.{arith}
use lib.ListN.{length}
use Rattle.rules.specs.Assertion.{Member, Members}
use Rattle.rules.specs.Context.{Context}
use Rattle.rules.specs.Condition.{on_empty, on_one}
use Rattle.ends.specs.Ends.{EndsOf}
use Rattle.ends.specs.Places.{SetAt}
use Rattle.sets.specs.Piles.{count_at}
use Rattle.sets.specs.Trees.{MembersWritten, HasSet}
use Rattle.sets.proofs.Trees.{set-count, set-written}
use Rattle.set_laws.specs.Members.{OneWritten}

pub has-set : {file ends : List ℕ} {Γ : Context} {m : Members} {at : ℕ} → SetAt file ends Γ m at → HasSet file ends at
has-set {Γ = Γ} {m = m} x = record { Γ = Γ; tree = m; there = x }

empty_by : (m : Members) → length m ≡ 0 → m ≡ []
empty_by [] e = refl
empty_by (x ∷ m) e = absurd (omega arith)

not-empty_by : {A : Type 0} (m : Members) (x y : A) → (length m ≡ 0 → ⊥) → on_empty m x y ≡ x
unfolding on_empty
not-empty_by [] x y h = absurd (h refl)
not-empty_by (n ∷ m) x y h = refl

not-one_by : {A : Type 0} (m : Members) (x : A) (f : Member → A) → (length m ≡ 1 → ⊥) → on_one m x f ≡ x
unfolding on_one
not-one_by [] x f h = refl
not-one_by (n ∷ []) x f h = absurd (h refl)
not-one_by (n ∷ (k ∷ m)) x f h = refl

one-by : (file ends : List ℕ) (m : Members) (at : ℕ) → length m ≡ 1 → MembersWritten file ends m at →
    OneWritten file ends m at
one-by file ends [] at e w = absurd (omega arith)
one-by file ends (n ∷ []) at e w = record { only = n; is = refl; only_at = w.0 }
one-by file ends (n ∷ (k ∷ m)) at e w = absurd (omega arith)

module _ {file ends : List ℕ} {Γ : Context} {m : Members} {at : ℕ} (x : SetAt file ends Γ m at) where
  pub is-empty : count_at file at ≡ 0 → m ≡ []
  is-empty e = empty_by m (sym (set-count x) ∙ e)

  pub not-empty : {A : Type 0} (y z : A) → (count_at file at ≡ 0 → ⊥) → on_empty m y z ≡ y
  not-empty y z h = not-empty_by m y z (λ e. h (set-count x ∙ e))

  pub is_one : EndsOf file ends → count_at file at ≡ 1 → OneWritten file ends m (at + 1)
  is_one o e = one-by file ends m (at + 1) (sym (set-count x) ∙ e) (set-written o x)

  pub not-one : {A : Type 0} (y : A) (f : Member → A) → (count_at file at ≡ 1 → ⊥) → on_one m y f ≡ y
  not-one y f h = not-one_by m y f (λ e. h (set-count x ∙ e))
