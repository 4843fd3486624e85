-- What is shown of a command, a set or operands taken apart by their form: the form itself, with what stands there.
-- Assumes nothing.
--     form-is                       a command by its form
--     skip_is .. call-is            one form, where every other is impossible
--     empty_is, one-is, some_is     an empty set; one written member; what is there
use mathlib.Core.Path.{◌≡◌, refl}
use mathlib.Core.List.{[], ◌∷◌}
use mathlib.Core.Option.{Option, none, some}
use Prim.Native.Nat.{ℕ}
use Rattle.language.specs.Syntax.{Arithmetic, Boolean, Array, Expr, to_scalar, to_array}
use Rattle.language.specs.Syntax.{Command, skip, sequence, assert, assign, if_else, while, for, call}
use Rattle.rules.specs.Assertion.{Member, Members}
use Rattle.rules.specs.Condition.{by_form, on_skip, on_sequence, on_assert, on_scalar, on_array, on_if, on_while, on_for}
use Rattle.rules.specs.Condition.{on_call, on_empty, on_one, on_some}

module _ {A : Type 0} (P : A → Type 0) (R : Command → Type 0) where
  form-is : (s : A) (q : Command → Command → A) (t : Expr Boolean → A) (x : ℕ → Expr Arithmetic → A)
      (a : ℕ → Expr Array → A) (i : Expr Boolean → Command → Command → A) (w : Expr Boolean → Command → A)
      (f : ℕ → ℕ → Command → A) (l : ℕ → Command → A) →
      (P s → R skip) → ((c d : Command) → P (q c d) → R (sequence c d)) →
      ((b : Expr Boolean) → P (t b) → R (assert b)) →
      ((y : ℕ) (e : Expr Arithmetic) → P (x y e) → R (assign (to_scalar y e))) →
      ((y : ℕ) (e : Expr Array) → P (a y e) → R (assign (to_array y e))) →
      ((b : Expr Boolean) (c d : Command) → P (i b c d) → R (if_else b c d)) →
      ((b : Expr Boolean) (c : Command) → P (w b c) → R (while b c)) →
      ((y m : ℕ) (c : Command) → P (f y m c) → R (for y m c)) →
      ((y : ℕ) (c : Command) → P (l y c) → R (call y c)) → (c : Command) → P (by_form s q t x a i w f l c) → R c
  unfolding by_form
  form-is s q t x a i w f l s' q' t' x' a' i' w' f' l' skip h = s' h
  form-is s q t x a i w f l s' q' t' x' a' i' w' f' l' (sequence c d) h = q' c d h
  form-is s q t x a i w f l s' q' t' x' a' i' w' f' l' (assert b) h = t' b h
  form-is s q t x a i w f l s' q' t' x' a' i' w' f' l' (assign (to_scalar y e)) h = x' y e h
  form-is s q t x a i w f l s' q' t' x' a' i' w' f' l' (assign (to_array y e)) h = a' y e h
  form-is s q t x a i w f l s' q' t' x' a' i' w' f' l' (if_else b c d) h = i' b c d h
  form-is s q t x a i w f l s' q' t' x' a' i' w' f' l' (while b c) h = w' b c h
  form-is s q t x a i w f l s' q' t' x' a' i' w' f' l' (for y m c) h = f' y m c h
  form-is s q t x a i w f l s' q' t' x' a' i' w' f' l' (call y c) h = l' y c h

module _ {A : Type 0} (P : A → Type 0) (o : A) (never : P o → ⊥) (R : Command → Type 0) where
  no {ℓ} : {X : Type ℓ} → P o → X
  no h = absurd (never h)

  pub skip_is : (c : Command) (f : A) → P (on_skip c o f) → (P f → R skip) → R c
  skip_is c f h k =
      form-is P R _ _ _ _ _ _ _ _ _ k (λ c d. no) (λ b. no) (λ y e. no) (λ y e. no) (λ b c d. no) (λ b c. no)
      (λ y m c. no) (λ y c. no) c h

  pub sequence-is : (c : Command) (f : Command → Command → A) → P (on_sequence c o f) →
      ((c₁ c₂ : Command) → P (f c₁ c₂) → R (sequence c₁ c₂)) → R c
  sequence-is c f h k =
      form-is P R _ _ _ _ _ _ _ _ _ no k (λ b. no) (λ y e. no) (λ y e. no) (λ b c d. no) (λ b c. no)
      (λ y m c. no) (λ y c. no) c h

  pub assert-is : (c : Command) (f : Expr Boolean → A) → P (on_assert c o f) →
      ((b : Expr Boolean) → P (f b) → R (assert b)) → R c
  assert-is c f h k =
      form-is P R _ _ _ _ _ _ _ _ _ no (λ c d. no) k (λ y e. no) (λ y e. no) (λ b c d. no) (λ b c. no)
      (λ y m c. no) (λ y c. no) c h

  pub scalar_is : (c : Command) (f : ℕ → Expr Arithmetic → A) → P (on_scalar c o f) →
      ((x : ℕ) (e : Expr Arithmetic) → P (f x e) → R (assign (to_scalar x e))) → R c
  scalar_is c f h k =
      form-is P R _ _ _ _ _ _ _ _ _ no (λ c d. no) (λ b. no) k (λ y e. no) (λ b c d. no) (λ b c. no)
      (λ y m c. no) (λ y c. no) c h

  pub array-is : (c : Command) (f : ℕ → Expr Array → A) → P (on_array c o f) →
      ((a : ℕ) (e : Expr Array) → P (f a e) → R (assign (to_array a e))) → R c
  array-is c f h k =
      form-is P R _ _ _ _ _ _ _ _ _ no (λ c d. no) (λ b. no) (λ y e. no) k (λ b c d. no) (λ b c. no)
      (λ y m c. no) (λ y c. no) c h

  pub if_is : (c : Command) (f : Expr Boolean → Command → Command → A) → P (on_if c o f) →
      ((b : Expr Boolean) (c₁ c₂ : Command) → P (f b c₁ c₂) → R (if_else b c₁ c₂)) → R c
  if_is c f h k =
      form-is P R _ _ _ _ _ _ _ _ _ no (λ c d. no) (λ b. no) (λ y e. no) (λ y e. no) k (λ b c. no)
      (λ y m c. no) (λ y c. no) c h

  pub while-is : (c : Command) (f : Expr Boolean → Command → A) → P (on_while c o f) →
      ((b : Expr Boolean) (c₁ : Command) → P (f b c₁) → R (while b c₁)) → R c
  while-is c f h k =
      form-is P R _ _ _ _ _ _ _ _ _ no (λ c d. no) (λ b. no) (λ y e. no) (λ y e. no) (λ b c d. no) k
      (λ y m c. no) (λ y c. no) c h

  pub for-is : (c : Command) (f : ℕ → ℕ → Command → A) → P (on_for c o f) →
      ((q m : ℕ) (c₁ : Command) → P (f q m c₁) → R (for q m c₁)) → R c
  for-is c f h k =
      form-is P R _ _ _ _ _ _ _ _ _ no (λ c d. no) (λ b. no) (λ y e. no) (λ y e. no) (λ b c d. no) (λ b c. no)
      k (λ y c. no) c h

  pub call-is : (c : Command) (f : ℕ → Command → A) → P (on_call c o f) →
      ((n : ℕ) (c₁ : Command) → P (f n c₁) → R (call n c₁)) → R c
  call-is c f h k =
      form-is P R _ _ _ _ _ _ _ _ _ no (λ c d. no) (λ b. no) (λ y e. no) (λ y e. no) (λ b c d. no) (λ b c. no)
      (λ y m c. no) k c h

module _ {A : Type 0} (P : A → Type 0) (o : A) (never : P o → ⊥) (R : Members → Type 0) where
  pub empty_is : (p : Members) (f : A) → P (on_empty p o f) → (P f → R []) → R p
  unfolding on_empty
  empty_is [] f h k = k h
  empty_is (m ∷ p) f h k = absurd (never h)

  pub one-is : (p : Members) (f : Member → A) → P (on_one p o f) → ((m : Member) → P (f m) → R (m ∷ [])) → R p
  unfolding on_one
  one-is [] f h k = absurd (never h)
  one-is (m ∷ []) f h k = k m h
  one-is (m ∷ (n ∷ p)) f h k = absurd (never h)

pub some_is : {A B : Type 0} (P : A → Type 0) (o : A) → (P o → ⊥) → {R : Type 0} (r : Option B)
    (f : B → A) → P (on_some r o f) → ((q : B) → r ≡ some q → P (f q) → R) → R
unfolding on_some
some_is P o never none f h k = absurd (never h)
some_is P o never (some q) f h k = k q refl h
