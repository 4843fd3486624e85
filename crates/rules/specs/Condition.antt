-- Conditions as they are tried (document 01, "Judging order" 8 and 9): one passes, fails or is too large.
-- Trusted. Assumes nothing.
--     Result, test, _then_            the three results; of a test; conditions tried as written
--     implication, each_implies_false   implications, too large above the limit
--     by_form, on_skip .. on_call        a command taken apart by its form; by one form, the others all alike
--     on_empty, on_one, on_some          an empty set; a set of one written member; what is there
use Rattle.std.specs.Prelude.{Bool, true, false, [], ◌∷◌, ℕ, leb, length}
use Rattle.std.proofs.Math.Option.{Option, none, some}
use Rattle.language.specs.Syntax.{Arithmetic, Boolean, Array, Expr, truth, to_scalar, to_array}
use Rattle.language.specs.Syntax.{Command, skip, sequence, assert, assign, if_else, while, for, call}
use Rattle.rules.specs.Assertion.{Member, Members}
use Rattle.rules.specs.Context.{Context}
use Rattle.rules.specs.Implies.{distinct}
use Rattle.rules.specs.Tests.{truth_table}

pub data Result : Type 0 where
  passes fails too_large : Result

unfoldable pub test : Bool → Result
test true = passes
test false = fails

infixr 20 ◌then◌
unfoldable pub ◌then◌ : Result → Result → Result
passes then r = r
fails then r = fails
too_large then r = too_large

-- the truth table is made only where the comparisons are few enough
unfoldable pub implication : Context → Expr Boolean → Expr Boolean → Result
implication Γ φ ψ =
    elim (leb (length (distinct φ ψ)) Γ.limits.comparisons) [
      | true ↦ test (truth_table (distinct φ ψ) φ ψ)
      | false ↦ too_large
    ]

unfoldable pub each_implies_false : Context → Members → Result
each_implies_false Γ [] = passes
each_implies_false Γ (m ∷ q) = implication Γ m.antecedent (truth false) then each_implies_false Γ q

module _ {A : Type 0} where
  -- a command by its form: skip, sequence, assert, scalar assignment, array assignment, if, while, for, call
  unfoldable pub by_form :
      A → (Command → Command → A) → (Expr Boolean → A) → (ℕ → Expr Arithmetic → A) → (ℕ → Expr Array → A) →
      (Expr Boolean → Command → Command → A) → (Expr Boolean → Command → A) → (ℕ → ℕ → Command → A) →
      (ℕ → Command → A) → Command → A
  by_form s q t x a i w f l skip = s
  by_form s q t x a i w f l (sequence c₁ c₂) = q c₁ c₂
  by_form s q t x a i w f l (assert b) = t b
  by_form s q t x a i w f l (assign (to_scalar y e)) = x y e
  by_form s q t x a i w f l (assign (to_array y e)) = a y e
  by_form s q t x a i w f l (if_else b c₁ c₂) = i b c₁ c₂
  by_form s q t x a i w f l (while b c₁) = w b c₁
  by_form s q t x a i w f l (for y m c₁) = f y m c₁
  by_form s q t x a i w f l (call y c₁) = l y c₁

  abbrev pub on_skip : Command → A → A → A
  on_skip c o f = by_form f (λ _ _. o) (λ _. o) (λ _ _. o) (λ _ _. o) (λ _ _ _. o) (λ _ _. o) (λ _ _ _. o) (λ _ _. o) c

  abbrev pub on_sequence : Command → A → (Command → Command → A) → A
  on_sequence c o f = by_form o f (λ _. o) (λ _ _. o) (λ _ _. o) (λ _ _ _. o) (λ _ _. o) (λ _ _ _. o) (λ _ _. o) c

  abbrev pub on_assert : Command → A → (Expr Boolean → A) → A
  on_assert c o f = by_form o (λ _ _. o) f (λ _ _. o) (λ _ _. o) (λ _ _ _. o) (λ _ _. o) (λ _ _ _. o) (λ _ _. o) c

  abbrev pub on_scalar : Command → A → (ℕ → Expr Arithmetic → A) → A
  on_scalar c o f = by_form o (λ _ _. o) (λ _. o) f (λ _ _. o) (λ _ _ _. o) (λ _ _. o) (λ _ _ _. o) (λ _ _. o) c

  abbrev pub on_array : Command → A → (ℕ → Expr Array → A) → A
  on_array c o f = by_form o (λ _ _. o) (λ _. o) (λ _ _. o) f (λ _ _ _. o) (λ _ _. o) (λ _ _ _. o) (λ _ _. o) c

  abbrev pub on_if : Command → A → (Expr Boolean → Command → Command → A) → A
  on_if c o f = by_form o (λ _ _. o) (λ _. o) (λ _ _. o) (λ _ _. o) f (λ _ _. o) (λ _ _ _. o) (λ _ _. o) c

  abbrev pub on_while : Command → A → (Expr Boolean → Command → A) → A
  on_while c o f = by_form o (λ _ _. o) (λ _. o) (λ _ _. o) (λ _ _. o) (λ _ _ _. o) f (λ _ _ _. o) (λ _ _. o) c

  abbrev pub on_for : Command → A → (ℕ → ℕ → Command → A) → A
  on_for c o f = by_form o (λ _ _. o) (λ _. o) (λ _ _. o) (λ _ _. o) (λ _ _ _. o) (λ _ _. o) f (λ _ _. o) c

  abbrev pub on_call : Command → A → (ℕ → Command → A) → A
  on_call c o f = by_form o (λ _ _. o) (λ _. o) (λ _ _. o) (λ _ _. o) (λ _ _ _. o) (λ _ _. o) (λ _ _ _. o) f c

  unfoldable pub on_empty : Members → A → A → A
  on_empty [] other f = f
  on_empty (m ∷ p) other f = other

  unfoldable pub on_one : Members → A → (Member → A) → A
  on_one [] other f = other
  on_one (m ∷ []) other f = f m
  on_one (m ∷ (n ∷ p)) other f = other

  unfoldable pub on_some : {B : Type 0} → Option B → A → (B → A) → A
  on_some none other f = other
  on_some (some r) other f = f r
