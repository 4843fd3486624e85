-- Expressions as the runner works them out (document 01, "Runner"): operands go left first; an index is tested as soon as
-- it is worked out. A false left side settles an and, a true one an or (document 02, request [1]).
-- Trusted. Assumes nothing.
--     Evaluation, on_worked    what was worked out, or the number of the refusal that stops it; going on from it
--     in_range, is_index        the signed 64-bit range; an index 0 to 63
--     tested, index           a value that is tested; an index, tested
--     evaluate                an expression in a store
use Rattle.std.specs.Prelude.{Bool, true, false, not, cond, ◌&&◌, ℕ, ℤ, pos, negsuc}
use Rattle.std.specs.Int.Signed.{le_z}
use Rattle.language.specs.Syntax.{Sort, Expr, constant, scalar, operation, select, compare, truth, and, or, neg}
use Rattle.language.specs.Syntax.{array, zeros, update}
use Rattle.language.specs.Store.{Store, Value, same_integer, put, apply, relate}

pub data Evaluation (A : Type 0) : Type 0 where
  worked : A → Evaluation A
  stops : ℕ → Evaluation A

abbrev pub on_worked : {A B : Type 0} → Evaluation A → (A → Evaluation B) → Evaluation B
on_worked (worked a) f = f a
on_worked (stops k) f = stops k

abbrev pub in_range : ℤ → Bool
in_range z = le_z (negsuc 9223372036854775807) z && le_z z (pos 9223372036854775807)

abbrev pub is_index : ℤ → Bool
is_index z = le_z (pos 0) z && le_z z (pos 63)

abbrev pub tested : Bool → ℕ → ℤ → Evaluation ℤ
tested true k z = worked z
tested false k z = stops k

-- refusal 15
abbrev pub index : Evaluation ℤ → Evaluation ℤ
index o = on_worked o λ i. tested (is_index i) 15 i

-- refusal 14 at an operation, 15 at an index; the right side of an and or an or that its left side settles is not worked out
unfoldable pub evaluate : {k : Sort} → Expr k → Store → Evaluation (Value k)
evaluate (constant z) s = worked z
evaluate (scalar x) s = worked (s.scalars x)
evaluate (operation o a b) s = on_worked (evaluate a s) λ v. on_worked (evaluate b s) λ w.
    tested (in_range (apply o v w)) 14 (apply o v w)
evaluate (select h i) s = on_worked (evaluate h s) λ f. on_worked (index (evaluate i s)) λ v. worked (f v)
evaluate (compare r a b) s = on_worked (evaluate a s) λ v. on_worked (evaluate b s) λ w. worked (relate r v w)
evaluate (truth t) s = worked t
evaluate (and b c) s = on_worked (evaluate b s) λ v. cond v (evaluate c s) (worked false)
evaluate (or b c) s = on_worked (evaluate b s) λ v. cond v (worked true) (evaluate c s)
evaluate (neg b) s = on_worked (evaluate b s) λ v. worked (not v)
evaluate (array a) s = worked (s.arrays a)
evaluate zeros s = worked (λ i. pos 0)
evaluate (update h i a) s = on_worked (evaluate h s) λ f. on_worked (index (evaluate i s)) λ v.
    on_worked (evaluate a s) λ w. worked (put same_integer f v w)
