-- The refusal that is said of a step that is due (document 01, "Judging order" 12 to 15 and "Runner"; document 02, request [1]).
-- Values are those of the language's definition, over all integers: `evaluate` plays no part.
-- Trusted. Assumes nothing.
--     unless, first    a number, where a test fails; the first refusal of several
--     refusal_of        the refusal that an expression meets first
--     step_refusal      the one that a step meets first, with steps left
--     refusal          the one number that is said of a step after n steps on a budget, if any
use Rattle.std.specs.Prelude.{Bool, true, false, cond, List, [], ◌∷◌, ℕ, ltb}
use Rattle.std.proofs.Math.Option.{Option, none, some}
use Rattle.language.specs.Syntax.{Sort, Expr, constant, scalar, operation, select, compare, truth, and, or, neg}
use Rattle.language.specs.Syntax.{array, zeros, update, to_scalar, to_array}
use Rattle.language.specs.Store.{Store, value}
use Rattle.execution.specs.Evaluate.{in_range, is_index}
use Rattle.execution.specs.Due.{Step, skips, calls, asserts, tests, gives}

abbrev pub unless : Bool → ℕ → Option ℕ
unless true k = none
unless false k = some k

unfoldable pub first : List (Option ℕ) → Option ℕ
first [] = none
first (some k ∷ l) = some k
first (none ∷ l) = first l

-- operands go left first; 15 as soon as an index is worked out, 14 at an operation's value; nothing is said of the right side
-- of an and whose left side is false, or of an or whose left side is true (request [1])
unfoldable pub refusal_of : {k : Sort} → Expr k → Store → Option ℕ
refusal_of (constant z) s = none
refusal_of (scalar x) s = none
refusal_of (operation o a b) s =
    first (refusal_of a s ∷ refusal_of b s ∷ unless (in_range (value (operation o a b) s)) 14 ∷ [])
refusal_of (select h i) s = first (refusal_of h s ∷ refusal_of i s ∷ unless (is_index (value i s)) 15 ∷ [])
refusal_of (compare r a b) s = first (refusal_of a s ∷ refusal_of b s ∷ [])
refusal_of (truth t) s = none
refusal_of (and b c) s = first (refusal_of b s ∷ cond (value b s) (refusal_of c s) none ∷ [])
refusal_of (or b c) s = first (refusal_of b s ∷ cond (value b s) none (refusal_of c s) ∷ [])
refusal_of (neg b) s = refusal_of b s
refusal_of (array a) s = none
refusal_of zeros s = none
refusal_of (update h i a) s =
    first (refusal_of h s ∷ refusal_of i s ∷ unless (is_index (value i s)) 15 ∷ refusal_of a s ∷ [])

-- 12 is tried last
unfoldable pub step_refusal : Step → Store → Option ℕ
step_refusal skips s = none
step_refusal calls s = none
step_refusal (asserts b) s = first (refusal_of b s ∷ unless (value b s) 12 ∷ [])
step_refusal (tests b) s = refusal_of b s
step_refusal (gives (to_scalar x e)) s = refusal_of e s
step_refusal (gives (to_array a e)) s = refusal_of e s

-- 13 is tried before all
abbrev pub refusal : ℕ → ℕ → Step → Store → Option ℕ
refusal budget n d s = first (unless (ltb n budget) 13 ∷ step_refusal d s ∷ [])
