-- What the runner works out is the value that the language's definition gives, from every store that holds the lent
-- values; and where it stops, it stops by the refusal that the expression meets first. By induction on the expression.
-- Assumes nothing.
--     Near                     equal values; arrays equal at 0 to 63
--     WorkedOut                an outcome: a value with a property, or a refusal
--     after, mapped            operands one after the other; what is made of one
--     and-worked, or-worked    and and or, whose right side is worked out where the left one does not settle the test
--     evaluated                the law
use mathlib.Core.Path.{◌≡◌, refl, sym, ap, ap₂, subst, ◌∙◌}
use mathlib.Core.Bool.{Bool, true, false, not, cond, ◌&&◌, ◌||◌}
use mathlib.Core.List.{List, [], ◌∷◌}
use mathlib.Core.Option.{Option, none, some}
use Prim.Native.Nat.{ℕ, ◌<◌}
use native.Mathlib.Omega.{arith}
use borrow.Author.Tests.{leb-true}
use lib.Dec.{leb}
use lib.IntN.{ℤ, pos, negsuc}
use Rattle.language.specs.Syntax.{Sort, Arithmetic, Boolean, Array, Expr, constant, scalar, operation, select}
use Rattle.language.specs.Syntax.{compare, truth, and, or, neg, array, zeros, update}
use Rattle.language.specs.Store.{Store, Value, same_integer, put, apply, relate, value}
use Rattle.laws.proofs.Bools.{and_right, clash}
use Rattle.execution.specs.Lent.{Lent, store_of, HeldBy}
use Rattle.execution.specs.Evaluate.{Evaluation, worked, stops, on_worked, in_range, is_index, tested, index, evaluate}
use Rattle.execution.specs.Refusal.{unless, first, refusal_of}
use Rattle.execution.proofs.Small.{SmallExpression}

-- two values are one, as far as the runner sees them
abbrev pub Near : (k : Sort) → Value k → Value k → Type 0
Near Arithmetic v w = v ≡ w
Near Boolean v w = v ≡ w
Near Array f g = (i : ℕ) → i < 64 → f (pos i) ≡ g (pos i)

-- an outcome: a value with a property, or the refusal that is met first
pub data WorkedOut {A : Type 0} (W : A → Type 0) : Option ℕ → Evaluation A → Type 0 where
  is-worked : {a : A} → W a → WorkedOut W none (worked a)
  is-stopped : {k : ℕ} → WorkedOut W (some k) (stops k)

-- operands one after the other
pub after : {A B : Type 0} {W : A → Type 0} {X : B → Type 0} {r : Option ℕ} {o : Evaluation A} {f : A → Evaluation B}
    (l : List (Option ℕ)) →
    WorkedOut W r o → ((a : A) → W a → WorkedOut X (first l) (f a)) → WorkedOut X (first (r ∷ l)) (on_worked o f)
unfolding first
after l (is-worked {a = a} w) k = k a w
after l is-stopped k = is-stopped

-- what is made of one operand
pub mapped : {A B : Type 0} {W : A → Type 0} {X : B → Type 0} {r : Option ℕ} {o : Evaluation A} (g : A → B) →
    WorkedOut W r o → ((a : A) → W a → X (g a)) → WorkedOut X r (on_worked o λ a. worked (g a))
mapped g (is-worked {a = a} w) k = is-worked (k a w)
mapped g is-stopped k = is-stopped

-- and of the last operand
last : {A B : Type 0} {W : A → Type 0} {X : B → Type 0} {r : Option ℕ} {o : Evaluation A} (g : A → B) →
    WorkedOut W r o → ((a : A) → W a → X (g a)) → WorkedOut X (first (r ∷ [])) (on_worked o λ a. worked (g a))
unfolding first
last g w k = after [] w λ a h. is-worked (k a h)

-- an index is one of 0 to 63
index-within : (z : ℤ) → is_index z ≡ true → (j : ℕ) × (z ≡ pos j) × (j < 64)
index-within (pos n) h = let l = leb-true n 63 (and_right (leb 0 n) (leb n 63) h) in (n, refl, omega arith)
index-within (negsuc n) h = clash h refl

-- an index, tested, and what follows it
indexed : {B : Type 0} {X : B → Type 0} {z : ℤ} {r : Option ℕ} {o : Evaluation ℤ} {f : ℤ → Evaluation B}
    (l : List (Option ℕ)) → WorkedOut (λ w. w ≡ z) r o →
    ((v : ℤ) → v ≡ z → is_index v ≡ true → WorkedOut X (first l) (f v)) →
    WorkedOut X (first (r ∷ unless (is_index z) 15 ∷ l)) (on_worked (index o) f)
unfolding first
indexed {X = X} {z} {f = f} l (is-worked {a = a} e) k =
    subst (λ t. WorkedOut X (first (unless (is_index t) 15 ∷ l)) (on_worked (index (worked a)) f)) e
    (by-test (is_index a) refl (k a e))
  where
    by-test : (b : Bool) → is_index a ≡ b → (is_index a ≡ true → WorkedOut X (first l) (f a)) →
        WorkedOut X (first (unless b 15 ∷ l)) (on_worked (tested b 15 a) f)
    by-test true t next = next t
    by-test false t next = is-stopped
indexed l is-stopped k = is-stopped

-- a value, tested
in-range : {z : ℤ} (a : ℤ) → a ≡ z → WorkedOut (λ w. w ≡ z) (first (unless (in_range z) 14 ∷ [])) (tested (in_range a) 14 a)
unfolding first
in-range {z} a e =
    subst (λ t. WorkedOut (λ w. w ≡ z) (first (unless (in_range t) 14 ∷ [])) (tested (in_range a) 14 a)) e
    (by-test (in_range a))
  where
    by-test : (b : Bool) → WorkedOut (λ w. w ≡ z) (first (unless b 14 ∷ [])) (tested b 14 a)
    by-test true = is-worked e
    by-test false = is-stopped

-- no operand is left
nothing_left : {B : Type 0} {X : B → Type 0} {b : B} → X b → WorkedOut X (first []) (worked b)
unfolding first
nothing_left x = is-worked x

-- arrays that are near are equal at an index
near-at : (f g : ℤ → ℤ) {z w : ℤ} → Near Array f g → w ≡ z → is_index w ≡ true → f w ≡ g z
near-at f g {z} {w} n e t =
    let x = index-within w t in
    ap f x.1 ∙ n x.0 x.2 ∙ ap g (sym x.1 ∙ e)

-- an update of arrays that are near
near-put : (f g : ℤ → ℤ) {i j v w : ℤ} → Near Array f g → i ≡ j → v ≡ w →
    Near Array (put same_integer f i v) (put same_integer g j w)
near-put f g {i} {j} {v} {w} n e d k l =
    ap₂ (λ x y. cond (same_integer x (pos k)) y (f (pos k))) e d ∙ ap (cond (same_integer j (pos k)) w) (n k l)

-- the only operand
only : {A : Type 0} {W : A → Type 0} {r : Option ℕ} {o : Evaluation A} → WorkedOut W r o → WorkedOut W (first (r ∷ [])) o
unfolding first
only (is-worked w) = is-worked w
only is-stopped = is-stopped

-- sides of and and or, worth x and y: the right one is worked out where the left one does not settle the test
module _ {x y : Bool} {r q : Option ℕ} {left right : Evaluation Bool} (l : WorkedOut (λ v. v ≡ x) r left)
    (k : WorkedOut (λ v. v ≡ y) q right) where
  pub and-worked : WorkedOut (λ v. v ≡ (x && y)) (first (r ∷ cond x q none ∷ []))
      (on_worked left λ v. cond v right (worked false))
  and-worked = after _ l λ v e.
      subst (λ x. WorkedOut (λ w. w ≡ (x && y)) (first (cond x q none ∷ [])) (cond v right (worked false))) e (by_left v)
    where
      by_left : (v : Bool) → WorkedOut (λ w. w ≡ (v && y)) (first (cond v q none ∷ [])) (cond v right (worked false))
      by_left true = only k
      by_left false = only (is-worked refl)

  pub or-worked : WorkedOut (λ v. v ≡ (x || y)) (first (r ∷ cond x none q ∷ [])) (on_worked left λ v. cond v (worked true) right)
  or-worked = after _ l λ v e.
      subst (λ x. WorkedOut (λ w. w ≡ (x || y)) (first (cond x none q ∷ [])) (cond v (worked true) right)) e (by_left v)
    where
      by_left : (v : Bool) → WorkedOut (λ w. w ≡ (v || y)) (first (cond v none q ∷ [])) (cond v (worked true) right)
      by_left true = only (is-worked refl)
      by_left false = only k

-- the lent store m, and a store s that holds its values
module _ (m : Lent) (s : Store) (held : HeldBy m s) where
  abbrev pub Evaluated : {k : Sort} → Expr k → Type 0
  Evaluated {k} e = WorkedOut (λ v. Near k v (value e s)) (refusal_of e s) (evaluate e (store_of m))

  pub evaluated : {k : Sort} (e : Expr k) → SmallExpression e → Evaluated e
  unfolding value refusal_of evaluate SmallExpression
  evaluated (constant z) h = is-worked refl
  evaluated (scalar x) h = is-worked (held.scalars-held x h)
  evaluated (operation o a b) h =
      after _ (evaluated a h.0) λ v p. after _ (evaluated b h.1) λ w q. in-range (apply o v w) (ap₂ (apply o) p q)
  evaluated (select g i) h =
      after _ (evaluated g h.0) λ f n. indexed _ (evaluated i h.1) λ v p t.
      nothing_left (near-at f (value g s) n p t)
  evaluated (compare r a b) h =
      after _ (evaluated a h.0) λ v p. last (relate r v) (evaluated b h.1) λ w q. ap₂ (relate r) p q
  evaluated (truth t) h = is-worked refl
  evaluated (and b c) h = and-worked (evaluated b h.0) (evaluated c h.1)
  evaluated (or b c) h = or-worked (evaluated b h.0) (evaluated c h.1)
  evaluated (neg b) h = mapped not (evaluated b h) λ v p. ap not p
  evaluated (array a) h = is-worked (λ i l. held.arrays-held a i h l)
  evaluated zeros h = is-worked (λ i l. refl)
  evaluated (update g i a) h =
      after _ (evaluated g h.0) λ f n. indexed _ (evaluated i h.1) λ v p t.
      last (put same_integer f v) (evaluated a h.2) λ w q. near-put f (value g s) n p q
