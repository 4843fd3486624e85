-- Substitution, in values: what an expression is worth after it, in a store, it is worth before it in the store that
-- the substitution stands for.
-- Assumes nothing.
--     seen                 the store that a replacement stands for
--     replaced             an expression
--     seen-replacement     the right side for the identifier stands for the assignment
--     replaced-assigned    an expression after an assignment
use mathlib.Core.Path.{◌≡◌, refl, ◌∙◌, ap, ap₂}
use mathlib.Core.Bool.{Bool, true, false, not, ◌&&◌, ◌||◌, cond}
use lib.Dec.{eqb}
use Rattle.language.specs.Syntax.{Sort, Expr, constant, scalar, operation, select, compare, truth, and, or, neg}
use Rattle.language.specs.Syntax.{array, zeros, update, Assignment, to_scalar, to_array}
use Rattle.language.specs.Store.{Store, same_integer, put, apply, relate, value}
use Rattle.language.specs.Runs.{assigned}
use Rattle.rules.specs.Replace.{Replacement, replacement, replace}

abbrev pub seen : Store → Replacement → Store
seen s f = record { scalars = λ x. value (f.scalars x) s; arrays = λ a. value (f.arrays a) s }

module _ (s : Store) (f : Replacement) where
  pub replaced : {k : Sort} (e : Expr k) → value (replace e f) s ≡ value e (seen s f)
  unfolding value replace
  replaced (constant z) = refl
  replaced (scalar x) = refl
  replaced (operation o a b) = ap₂ (apply o) (replaced a) (replaced b)
  replaced (select h i) = λ j. replaced h j (replaced i j)
  replaced (compare r a b) = ap₂ (relate r) (replaced a) (replaced b)
  replaced (truth t) = refl
  replaced (and b c) = ap₂ ◌&&◌ (replaced b) (replaced c)
  replaced (or b c) = ap₂ ◌||◌ (replaced b) (replaced c)
  replaced (neg b) = ap not (replaced b)
  replaced (array a) = refl
  replaced zeros = refl
  replaced (update h i a) = λ j. put same_integer (replaced h j) (replaced i j) (replaced a j)

-- a value of a choice
choice : {k : Sort} (t : Bool) (d e : Expr k) (s : Store) → value (cond t d e) s ≡ cond t (value d s) (value e s)
choice true d e s = refl
choice false d e s = refl

pub seen-replacement : (a : Assignment) (s : Store) → seen s (replacement a) ≡ assigned a s
unfolding value
seen-replacement (to_scalar x e) s = λ i. record { scalars = λ y. choice (eqb x y) e (scalar y) s i; arrays = s.arrays }
seen-replacement (to_array a e) s = λ i. record { scalars = s.scalars; arrays = λ b. choice (eqb a b) e (array b) s i }

-- φ with the right side for the identifier, before the assignment, is φ after it
pub replaced-assigned : (a : Assignment) (s : Store) {k : Sort} (e : Expr k) →
    value (replace e (replacement a)) s ≡ value e (assigned a s)
replaced-assigned a s e = replaced s (replacement a) e ∙ ap (λ u. value e u) (seen-replacement a s)
