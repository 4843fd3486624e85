-- The first place that passes a test, as a scan finds it.
-- Assumes nothing.
--     first-start              before the first turn
--     first-here, first_next, first-end
--                              it is at hand; it is not at hand; there is none
--     first_past               past places that do not pass
--     first-none, none-there   no place passes; a scan that finds none
use mathlib.Core.Path.{◌≡◌, refl, sym, ap, ◌∙◌}
use mathlib.Core.Bool.{Bool, true, false}
use mathlib.Core.Option.{none, some}
use Prim.Native.Nat.{ℕ, zero, suc, ◌+◌, ◌-◌, ◌<◌, ◌≤◌}
use native.Mathlib.Omega.{arith}
use native.Mathlib.Numerals.{add-one}
use Rattle.layout.specs.Reading.{first_place}

module _ (t : ℕ → Bool) (n : ℕ) where
  pub first-start : first_place t (n - 0) 0 ≡ first_place t n 0
  first-start = let e : n - 0 ≡ n = omega arith in ap (λ k. first_place t k 0) e

  one_less : (at : ℕ) → at < n → n - at ≡ suc (n - (at + 1))
  one_less at h = omega arith

  pub first-here : (at : ℕ) → at < n → t at ≡ true → first_place t (n - at) at ≡ some at
  unfolding first_place
  first-here at h e = rw (one_less at h, first_place) (rw e refl)

  pub first_next : (at : ℕ) → at < n → t at ≡ false → first_place t (n - at) at ≡ first_place t (n - (at + 1)) (at + 1)
  unfolding first_place
  first_next at h e = rw (add-one at) (rw (one_less at h, first_place) (rw (e, add-one at) refl))

  pub first-end : (at : ℕ) → n ≤ at → first_place t (n - at) at ≡ none
  unfolding first_place
  first-end at h = let e : n - at ≡ 0 = omega arith in rw e refl

  -- k places from `at` on
  past : (k at : ℕ) → at + k ≤ n → ((i : ℕ) → at ≤ i → i < at + k → t i ≡ false) →
      first_place t (n - at) at ≡ first_place t (n - (at + k)) (at + k)
  past zero at h f = let e : at ≡ at + zero = omega arith in ap (λ j. first_place t (n - j) j) e
  past (suc k) at h f =
      let e : at + 1 + k ≡ at + suc k = omega arith in
      first_next at (omega arith) (f at (omega arith) (omega arith))
      ∙ past k (at + 1) (omega arith) (λ i l m. f i (omega arith) (omega arith))
      ∙ ap (λ j. first_place t (n - j) j) e

  pub first_past : (at p : ℕ) → at ≤ p → p ≤ n → ((i : ℕ) → at ≤ i → i < p → t i ≡ false) →
      first_place t (n - at) at ≡ first_place t (n - p) p
  first_past at p h k f =
      let e : at + (p - at) ≡ p = omega arith in
      past (p - at) at (omega arith) (λ i l m. f i l (omega arith)) ∙ ap (λ j. first_place t (n - j) j) e

  pub first-none : ((i : ℕ) → i < n → t i ≡ false) → first_place t n 0 ≡ none
  first-none f =
      sym first-start ∙ first_past 0 n (omega arith) (omega arith) (λ i l m. f i m) ∙ first-end n (omega arith)

  none_here : (i : ℕ) → i < n → first_place t (n - i) i ≡ none → t i ≡ false
  none_here i l e = go (t i) refl
    where
      go : (b : Bool) → t i ≡ b → b ≡ false
      go false h = refl
      go true h = absurd (let f = first-here i l h in let z : ◌≡◌ {A = ℕ} 0 1 = cc in omega (arith, z))

  none_from : first_place t n 0 ≡ none → (i : ℕ) → i ≤ n → first_place t (n - i) i ≡ none
  none_from e zero l = first-start ∙ e
  none_from e (suc i) l =
      let f = none_from e i (omega arith) in
      rw (← add-one i) (sym (first_next i (omega arith) (none_here i (omega arith) f)) ∙ f)

  pub none-there : first_place t n 0 ≡ none → (i : ℕ) → i < n → t i ≡ false
  none-there e i l = none_here i l (none_from e i (omega arith))
