-- Substitution: an expression with others in the place of its identifiers (document 01, "Rules" 3, 4, 24, 25).
-- Trusted. Assumes nothing.
--     Replacement, replacement    an expression for each identifier; the right side for the assigned identifier
--     replace, replace_members     an expression, a set so replaced
use Rattle.std.specs.Prelude.{[], ◌∷◌, ℕ, eqb}
use Rattle.language.specs.Syntax.{Sort, Arithmetic, Array, Expr, constant, scalar, operation, select}
use Rattle.language.specs.Syntax.{compare, truth, and, or, neg, array, zeros, update, Assignment, to_scalar, to_array}
use Rattle.language.specs.Store.{put}
use Rattle.rules.specs.Assertion.{Members, member}

pub record Replacement : Type 0 where
  pub scalars : ℕ → Expr Arithmetic
  pub arrays : ℕ → Expr Array

-- every other identifier stays
abbrev pub replacement : Assignment → Replacement
replacement (to_scalar x e) = record { scalars = put eqb scalar x e; arrays = array }
replacement (to_array a e) = record { scalars = scalar; arrays = put eqb array a e }

-- at every place, inside an array's own index too
unfoldable pub replace : {k : Sort} → Expr k → Replacement → Expr k
replace (constant z) f = constant z
replace (scalar x) f = f.scalars x
replace (operation o a b) f = operation o (replace a f) (replace b f)
replace (select h i) f = select (replace h f) (replace i f)
replace (compare r a b) f = compare r (replace a f) (replace b f)
replace (truth t) f = truth t
replace (and b c) f = and (replace b f) (replace c f)
replace (or b c) f = or (replace b f) (replace c f)
replace (neg b) f = neg (replace b f)
replace (array a) f = f.arrays a
replace zeros f = zeros
replace (update h i a) f = update (replace h f) (replace i f) (replace a f)

abbrev pub replace_members : Members → Replacement → Members
replace_members [] f = []
replace_members (m ∷ p) f = member (replace m.antecedent f) (replace m.consequent f) ∷ replace_members p f
