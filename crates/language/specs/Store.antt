-- Stores, and the value of an expression in a store (document 01, "Language").
-- Trusted. Assumes nothing.
--     Store, Value          every scalar's integer and every array's map; what an expression of a sort is worth
--     same_integer, put      equality of integers as a test; a map with one value replaced
--     apply, relate         the operators; the comparisons
--     value                 the value of an expression
use Rattle.std.specs.Prelude.{Bool, false, not, ◌&&◌, ◌||◌, cond, ℕ, eqb, ℤ, pos, negsuc, ◌+ℤ◌, ◌-ℤ◌, ◌*ℤ◌}
use Rattle.std.specs.Int.Signed.{lt_z, le_z}
use Rattle.language.specs.Syntax.{Operator, plus, minus, times, Comparison, equal, less, at_most}
use Rattle.language.specs.Syntax.{Sort, Arithmetic, Boolean, Array, Expr, constant, scalar, operation, select}
use Rattle.language.specs.Syntax.{compare, truth, and, or, neg, array, zeros, update}

-- scalars are unbounded integers, arrays total maps from integers to integers
pub record Store : Type 0 where
  pub scalars : ℕ → ℤ
  pub arrays : ℕ → ℤ → ℤ

abbrev pub Value : Sort → Type 0
Value Arithmetic = ℤ
Value Boolean = Bool
Value Array = ℤ → ℤ

abbrev pub same_integer : ℤ → ℤ → Bool
same_integer (pos a) (pos b) = eqb a b
same_integer (pos a) (negsuc b) = false
same_integer (negsuc a) (pos b) = false
same_integer (negsuc a) (negsuc b) = eqb a b

-- the map f with v at x, all else as it was; `same` tells which keys are one
abbrev pub put : {K A : Type 0} → (K → K → Bool) → (K → A) → K → A → K → A
put same f x v y = cond (same x y) v (f y)

abbrev pub apply : Operator → ℤ → ℤ → ℤ
apply plus a b = a +ℤ b
apply minus a b = a -ℤ b
apply times a b = a *ℤ b

abbrev pub relate : Comparison → ℤ → ℤ → Bool
relate equal a b = same_integer a b
relate less a b = lt_z a b
relate at_most a b = le_z a b

-- a select is the array's value at the index; an update is the array with the value at the index
unfoldable pub value : {k : Sort} → Expr k → Store → Value k
value (constant z) s = z
value (scalar x) s = s.scalars x
value (operation o a b) s = apply o (value a s) (value b s)
value (select h i) s = value h s (value i s)
value (compare r a b) s = relate r (value a s) (value b s)
value (truth t) s = t
value (and b c) s = value b s && value c s
value (or b c) s = value b s || value c s
value (neg b) s = not (value b s)
value (array a) s = s.arrays a
value zeros s = λ i. pos 0
value (update h i a) s = put same_integer (value h s) (value i s) (value a s)
