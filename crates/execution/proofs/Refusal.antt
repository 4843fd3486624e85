-- Refusals of a step: their numbers, and what is said with so many steps left.
-- Assumes nothing.
--     Number, number              none, or at least so much and at most 15; 12 to 15 of every step's refusal
--     both-number                 of two refusals, the first
--     expression-number           14 or 15 of an expression's
--     first_one                   of one refusal, itself
--     refusal-within              13 is not said while a step is left
--     refusal_left, refusal-left   the refusal of a step with so many steps left; it is that after so many steps
use mathlib.Core.Path.{◌≡◌, refl}
use mathlib.Core.Bool.{Bool, true, false, cond}
use mathlib.Core.List.{List, [], ◌∷◌}
use mathlib.Core.Option.{Option, none, some}
use Prim.Native.Nat.{ℕ, zero, suc, ◌+◌, ◌<◌, ◌≤◌}
use native.Mathlib.Omega.{arith}
use borrow.Author.Tests.{lt-ltb, le-ltb}
use lib.Dec.{ltb}
use lib.IntN.{ℤ}
use Rattle.language.specs.Syntax.{Sort, Expr, constant, scalar, operation, select, compare, truth, and, or, neg}
use Rattle.language.specs.Syntax.{array, zeros, update, to_scalar, to_array}
use Rattle.language.specs.Store.{Store, value}
use Rattle.execution.specs.Evaluate.{in_range, is_index}
use Rattle.execution.specs.Due.{Step, skips, calls, asserts, tests, gives}
use Rattle.execution.specs.Refusal.{unless, first, refusal_of, step_refusal, refusal}

-- of expressions from 14 on, of steps from 12 on
pub data Number (least : ℕ) : Option ℕ → Type 0 where
  no_number : Number least none
  a_number : {k : ℕ} → least ≤ k → k ≤ 15 → Number least (some k)

module _ {least : ℕ} where
  none_number : Number least (first [])
  unfolding first
  none_number = no_number

  first-number : (r : Option ℕ) (l : List (Option ℕ)) → Number least r → Number least (first l) → Number least (first (r ∷ l))
  unfolding first
  first-number none l h k = k
  first-number (some i) l (a_number h j) _ = a_number h j

  unless-number : (b : Bool) (k : ℕ) → least ≤ k → k ≤ 15 → Number least (unless b k)
  unless-number true k l h = no_number
  unless-number false k l h = a_number l h

  pub both-number : (r q : Option ℕ) → Number least r → Number least q → Number least (first (r ∷ q ∷ []))
  both-number r q h k = first-number r _ h (first-number q [] k none_number)

  -- one of two, by a test
  cond-number : (b : Bool) (r q : Option ℕ) → Number least r → Number least q → Number least (cond b r q)
  cond-number true r q h k = h
  cond-number false r q h k = k

-- an index and an operation's value
index_number : (z : ℤ) (l : List (Option ℕ)) → Number 14 (first l) → Number 14 (first (unless (is_index z) 15 ∷ l))
index_number z l = first-number _ l (unless-number (is_index z) 15 (omega arith) (omega arith))

value-number : (z : ℤ) → Number 14 (first (unless (in_range z) 14 ∷ []))
value-number z = first-number _ [] (unless-number (in_range z) 14 (omega arith) (omega arith)) none_number

pub expression-number : {k : Sort} (e : Expr k) (s : Store) → Number 14 (refusal_of e s)
unfolding refusal_of
expression-number (constant z) s = no_number
expression-number (scalar x) s = no_number
expression-number (operation o a b) s =
    first-number _ _ (expression-number a s) (first-number _ _ (expression-number b s)
    (value-number (value (operation o a b) s)))
expression-number (select h i) s =
    first-number _ _ (expression-number h s) (first-number _ _ (expression-number i s)
    (index_number (value i s) [] none_number))
expression-number (compare r a b) s = both-number _ _ (expression-number a s) (expression-number b s)
expression-number (truth t) s = no_number
expression-number (and b c) s =
    both-number _ _ (expression-number b s) (cond-number (value b s) _ none (expression-number c s) no_number)
expression-number (or b c) s =
    both-number _ _ (expression-number b s) (cond-number (value b s) none _ no_number (expression-number c s))
expression-number (neg b) s = expression-number b s
expression-number (array a) s = no_number
expression-number zeros s = no_number
expression-number (update h i a) s =
    first-number _ _ (expression-number h s) (first-number _ _ (expression-number i s)
    (index_number (value i s) _ (first-number _ [] (expression-number a s) none_number)))

from-12 : (r : Option ℕ) → Number 14 r → Number 12 r
from-12 none h = no_number
from-12 (some k) (a_number l h) = a_number {k = k} (omega arith) h

step-number : (d : Step) (s : Store) → Number 12 (step_refusal d s)
unfolding step_refusal
step-number skips s = no_number
step-number calls s = no_number
step-number (asserts b) s =
    both-number _ _ (from-12 _ (expression-number b s)) (unless-number (value b s) 12 (omega arith) (omega arith))
step-number (tests b) s = from-12 _ (expression-number b s)
step-number (gives (to_scalar x e)) s = from-12 _ (expression-number e s)
step-number (gives (to_array a e)) s = from-12 _ (expression-number e s)

pub number : (budget n : ℕ) (d : Step) (s : Store) → Number 12 (refusal budget n d s)
number budget n d s =
    both-number _ _ (unless-number (ltb n budget) 13 (omega arith) (omega arith)) (step-number d s)

-- with no step left 13 is said
abbrev pub refusal_left : ℕ → Step → Store → Option ℕ
refusal_left zero d s = some 13
refusal_left (suc l) d s = step_refusal d s

pub first_one : (r : Option ℕ) → first (r ∷ []) ≡ r
unfolding first
first_one none = refl
first_one (some k) = refl

pub refusal-within : (n budget : ℕ) (d : Step) (s : Store) → n < budget → refusal budget n d s ≡ step_refusal d s
unfolding first
refusal-within n budget d s l = rw (lt-ltb n budget l) (first_one (step_refusal d s))

pub refusal-left : (n l budget : ℕ) (d : Step) (s : Store) → n + l ≡ budget →
    refusal budget n d s ≡ refusal_left l d s
unfolding first
refusal-left n zero budget d s e = rw (le-ltb n budget (omega arith)) refl
refusal-left n (suc l) budget d s e = refusal-within n budget d s (omega arith)
