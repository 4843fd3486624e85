-- Commands run on a budget of steps (document 01, "Runner" and "Judging order" 12 to 15; document 02, request [3]).
-- Trusted. Assumes nothing.
--     End               a run ends, or stops by a refusal at a place, with the steps left and the store then
--     on_ended           going on where a run ended
--     step              13 first, then 14 and 15, and then what the step does
--     given, assigns    the store after an assignment; an assignment, at a place
--     turns             a while from its test on
--     run               the command whose first word stands at a place
use Rattle.std.specs.Prelude.{true, false, cond, ℕ, zero, suc, ◌+◌, ◌*◌, length, set}
use Rattle.std.proofs.Math.Seq.{paste}
use Rattle.language.specs.Syntax.{at_most, Boolean, Expr, scalar, compare}
use Rattle.language.specs.Syntax.{Assignment, to_scalar, to_array}
use Rattle.language.specs.Syntax.{Command, skip, sequence, assert, assign, if_else, while, for, call}
use Rattle.language.specs.Runs.{start, increment}
use Rattle.rules.specs.Words.{words, command_words}
use Rattle.execution.specs.Lent.{Lent, store_of, elements}
use Rattle.execution.specs.Evaluate.{Evaluation, worked, stops, on_worked, evaluate}

pub data End : Type 0 where
  ended : ℕ → Lent → End
  stopped : ℕ → ℕ → ℕ → Lent → End

abbrev pub on_ended : End → (ℕ → Lent → End) → End
on_ended (ended n m) f = f n m
on_ended (stopped k p n m) f = stopped k p n m

-- at 13, 14 and 15 the store is as before the step; otherwise one step less is left
abbrev pub step : {A : Type 0} → ℕ → ℕ → Lent → Evaluation A → (A → ℕ → End) → End
step at zero m o f = stopped 13 at 0 m
step at (suc n) m (worked v) f = f v n
step at (suc n) m (stops k) f = stopped k at (suc n) m

-- the store with the identifier given the value that was worked out
abbrev pub given : Assignment → Lent → Evaluation Lent
given (to_scalar x e) m = on_worked (evaluate e (store_of m)) λ v.
    worked (record { scalars = set m.scalars x v; values = m.values })
given (to_array a e) m = on_worked (evaluate e (store_of m)) λ f.
    worked (record { scalars = m.scalars; values = paste m.values (64 * a) (elements f) 64 })

abbrev pub assigns : Assignment → ℕ → ℕ → Lent → End
assigns a at n m = step at n m (given a m) λ m' l. ended l m'

-- each turn takes a step, so there are no more turns than steps left: at zero none is left
unfoldable pub turns : ℕ → Expr Boolean → (ℕ → Lent → End) → ℕ → ℕ → Lent → End
turns zero b body at n m = stopped 13 at 0 m
turns (suc k) b body at n m = step at n m (evaluate b (store_of m)) λ v l.
    elim v [ true ↦ on_ended (body l m) (turns k b body at) | false ↦ ended l m ]

-- a `for`'s start, test and increment stand at its word; the body of procedure p stands at `body_at p`
unfoldable pub run : (ℕ → ℕ) → Command → ℕ → ℕ → Lent → End
run body_at skip at n m = step at n m (worked m) λ m' l. ended l m'
run body_at (sequence c d) at n m = on_ended (run body_at c (at + 1) n m) (run body_at d (at + 1 + length (command_words c)))
run body_at (assert b) at n m = step at n m (evaluate b (store_of m)) λ v l. cond v (ended l m) (stopped 12 at n m)
run body_at (assign a) at n m = assigns a at n m
run body_at (if_else b c d) at n m = step at n m (evaluate b (store_of m)) λ v l. elim v [
  | true ↦ run body_at c (at + 1 + length (words b)) l m
  | false ↦ run body_at d (at + 1 + length (words b) + length (command_words c)) l m
]
run body_at (while b c) at n m = turns n b (run body_at c (at + 1 + length (words b))) at n m
run body_at (for q r c) at n m = on_ended (assigns (start q) at n m) λ l m'.
    turns l (compare at_most (scalar q) (scalar r))
    (λ k m''. on_ended (run body_at c (at + 1) k m'') (assigns (increment q) at)) at l m'
run body_at (call p c) at n m = step at n m (worked m) λ m' l. run body_at c (body_at p) l m'
