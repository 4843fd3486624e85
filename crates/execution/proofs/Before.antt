-- A step that is due in a run that ends comes before its end. By induction on the step, with determinism for sequences and
-- loops.
-- Assumes nothing.
--     due-before     the law
use mathlib.Core.Path.{◌≡◌, sym, subst}
use Prim.Native.Nat.{ℕ, ◌<◌}
use native.Mathlib.Omega.{arith}
use Rattle.language.specs.Syntax.{at_most, Boolean, Expr, scalar, compare, Assignment}
use Rattle.language.specs.Syntax.{Command, skip, sequence, assert, assign, if_else, while, for, call}
use Rattle.language.specs.Store.{Store}
use Rattle.language.specs.Runs.{increment, Runs, runs_skip, runs_sequence, runs_assert, runs_assign}
use Rattle.language.specs.Runs.{runs_then, runs_else}
use Rattle.language.specs.Runs.{runs_done, runs_again, runs_for, runs_call}
use Rattle.laws.proofs.Bools.{clash}
use Rattle.execution.specs.Due.{Step}
use Rattle.execution.specs.Due.{Due, due-skip, due-first, due-second, due-assert, due-assign, due-if, due-then}
use Rattle.execution.specs.Due.{due-else, due-while, due-body, due-again, due-start, due-turn, due-call, due-called}
use Rattle.execution.specs.Due.{DueTurn, due-test, due-within, due-increment, due-next}
use Rattle.language.proofs.Once.{one_end, one-count}

-- a run from a store that is the same
from : {c : Command} {n : ℕ} {s t u : Store} → s ≡ t → Runs c n t u → Runs c n s u
from {c} {n} {u = u} e r = subst (λ x. Runs c n x u) (sym e) r

-- the law of a command; the body of procedure p stands at `body_at p`
record StepsBefore (body_at : ℕ → ℕ) (c : Command) : Type 0 where
  steps-before : {i : ℕ} {s : Store} {k : ℕ} {d : Step} {p : ℕ} {t : Store} {n : ℕ} {u : Store} →
      Due body_at c i s k d p t → Runs c n s u → k < n

module _ {body_at : ℕ → ℕ} where
  -- the law of each command, from that of its parts
  skip-before : {i : ℕ} {s : Store} {k : ℕ} {d : Step} {p : ℕ} {t : Store} {n : ℕ} {u : Store} →
      Due body_at skip i s k d p t → Runs skip n s u → k < n
  skip-before due-skip runs_skip = omega arith

  assert-before : {b : Expr Boolean} {i : ℕ} {s : Store} {k : ℕ} {d : Step} {p : ℕ} {t : Store} {n : ℕ} {u : Store} →
      Due body_at (assert b) i s k d p t → Runs (assert b) n s u → k < n
  assert-before due-assert (runs_assert e) = omega arith

  assign-before : {a : Assignment} {i : ℕ} {s : Store} {k : ℕ} {d : Step} {p : ℕ} {t : Store} {n : ℕ} {u : Store} →
      Due body_at (assign a) i s k d p t → Runs (assign a) n s u → k < n
  assign-before due-assign runs_assign = omega arith

  module _ {c c' : Command} (C : StepsBefore body_at c) (C' : StepsBefore body_at c') where
    sequence-before : {i : ℕ} {s : Store} {k : ℕ} {d : Step} {p : ℕ} {t : Store} {n : ℕ} {u : Store} →
        Due body_at (sequence c c') i s k d p t → Runs (sequence c c') n s u → k < n
    sequence-before (due-first h) (runs_sequence r q) = let l = C.steps-before h r in omega arith
    sequence-before (due-second r h) (runs_sequence r' q) =
        let e = one-count r r' in let l = C'.steps-before h (from (one_end r r') q) in omega arith

    if_before : {b : Expr Boolean} {i : ℕ} {s : Store} {k : ℕ} {d : Step} {p : ℕ} {t : Store} {n : ℕ} {u : Store} →
        Due body_at (if_else b c c') i s k d p t → Runs (if_else b c c') n s u → k < n
    if_before due-if (runs_then e r) = omega arith
    if_before due-if (runs_else e r) = omega arith
    if_before (due-then e h) (runs_then e' r) = let l = C.steps-before h r in omega arith
    if_before (due-then e h) (runs_else e' r) = clash e e'
    if_before (due-else e h) (runs_then e' r) = clash e' e
    if_before (due-else e h) (runs_else e' r) = let l = C'.steps-before h r in omega arith

  module _ {c : Command} (C : StepsBefore body_at c) where
    while-before : {b : Expr Boolean} {i : ℕ} {s : Store} {k : ℕ} {d : Step} {p : ℕ} {t : Store} {n : ℕ} {u : Store} →
        Due body_at (while b c) i s k d p t → Runs (while b c) n s u → k < n
    while-before due-while (runs_done e) = omega arith
    while-before due-while (runs_again e r q) = omega arith
    while-before (due-body e h) (runs_done e') = clash e e'
    while-before (due-body e h) (runs_again e' r q) = let l = C.steps-before h r in omega arith
    while-before (due-again e r h) (runs_done e') = clash e e'
    while-before (due-again e r h) (runs_again e' r' q) =
        let x = one-count r r' in let l = while-before h (from (one_end r r') q) in omega arith

    -- a `for` from its test on
    turn-before : {q r : ℕ} {i : ℕ} {s : Store} {k : ℕ} {d : Step} {p : ℕ} {t : Store} {n : ℕ} {u : Store} →
        DueTurn body_at q r c i s k d p t →
        Runs (while (compare at_most (scalar q) (scalar r)) (sequence c (assign (increment q)))) n s u → k < n
    turn-before due-test (runs_done e) = omega arith
    turn-before due-test (runs_again e r q) = omega arith
    turn-before (due-within e h) (runs_done e') = clash e e'
    turn-before (due-within e h) (runs_again e' (runs_sequence r x) q) = let l = C.steps-before h r in omega arith
    turn-before (due-increment e r) (runs_done e') = clash e e'
    turn-before (due-increment e r) (runs_again e' r' q) =
        let x = one-count (runs_sequence r runs_assign) r' in omega arith
    turn-before (due-next e r h) (runs_done e') = clash e e'
    turn-before (due-next e r h) (runs_again e' r' q) =
        let x = one-count (runs_sequence r runs_assign) r' in
        let l = turn-before h (from (one_end (runs_sequence r runs_assign) r') q) in omega arith

    for-before : {q r : ℕ} {i : ℕ} {s : Store} {k : ℕ} {d : Step} {p : ℕ} {t : Store} {n : ℕ} {u : Store} →
        Due body_at (for q r c) i s k d p t → Runs (for q r c) n s u → k < n
    for-before due-start (runs_for (runs_sequence runs_assign r)) = omega arith
    for-before (due-turn h) (runs_for (runs_sequence runs_assign r)) = let l = turn-before h r in omega arith

    call-before : {q : ℕ} {i : ℕ} {s : Store} {k : ℕ} {d : Step} {p : ℕ} {t : Store} {n : ℕ} {u : Store} →
        Due body_at (call q c) i s k d p t → Runs (call q c) n s u → k < n
    call-before due-call (runs_call r) = omega arith
    call-before (due-called h) (runs_call r) = let l = C.steps-before h r in omega arith

  all-before : (c : Command) → StepsBefore body_at c
  all-before skip = record { steps-before = skip-before }
  all-before (sequence c d) = record { steps-before = sequence-before (all-before c) (all-before d) }
  all-before (assert b) = record { steps-before = assert-before }
  all-before (assign a) = record { steps-before = assign-before }
  all-before (if_else b c d) = record { steps-before = if_before (all-before c) (all-before d) }
  all-before (while b c) = record { steps-before = while-before (all-before c) }
  all-before (for q r c) = record { steps-before = for-before (all-before c) }
  all-before (call n c) = record { steps-before = call-before (all-before c) }

  -- THE LAW
  pub due-before : {c : Command} {i : ℕ} {s : Store} {k : ℕ} {d : Step} {p : ℕ} {t : Store} {n : ℕ} {u : Store} →
      Due body_at c i s k d p t → Runs c n s u → k < n
  due-before {c} = (all-before c).steps-before
