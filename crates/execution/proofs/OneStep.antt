-- After so many steps one step at most is due.
-- Assumes nothing.
--     SameStep, Linear     two steps are one; after so many steps only one is due
--     linear_map, ..       of steps put together
--     command-linear       of a command
--     due-once             the law
use mathlib.Core.Path.{◌≡◌, refl, sym, subst}
use mathlib.Core.Bool.{Bool, true, false}
use Prim.Native.Nat.{ℕ, ◌+◌}
use native.Mathlib.Omega.{arith}
use lib.ListN.{length}
use Rattle.language.specs.Syntax.{Boolean, Expr, Assignment}
use Rattle.language.specs.Syntax.{Command, skip, sequence, assert, assign, if_else, while, for, call}
use Rattle.language.specs.Store.{Store, value}
use Rattle.language.specs.Runs.{start, increment}
use Rattle.rules.specs.Words.{words, command_words}
use Rattle.execution.specs.Due.{Step, calls, tests, Due, due-skip, due-assert, due-assign}
use Rattle.language.proofs.Once.{one_end, one-count}
use Rattle.execution.proofs.Steps.{Steps, SameSteps, DueAfter, at-step, after-step, AllBefore, command-before}
use Rattle.execution.proofs.Steps.{DueSequence, in_first, in_second, DueLoop, loop-test, loop-body, loop-again}
use Rattle.execution.proofs.Steps.{then-steps, else_steps, sequence-steps, while-steps, for-steps, call-steps}
use Rattle.execution.proofs.Steps.{turn-before}

pub record SameStep (d : Step) (p : ℕ) (t : Store) (d' : Step) (p' : ℕ) (t' : Store) : Type 0 where
  pub same_step : d ≡ d'
  pub same_place : p ≡ p'
  pub same_store : t ≡ t'

is_same : {d : Step} {p : ℕ} {t : Store} → SameStep d p t d p t
is_same = record { same_step = refl; same_place = refl; same_store = refl }

pub record Linear (D : Steps) : Type 0 where
  pub one : {k : ℕ} {d : Step} {p : ℕ} {t : Store} {k' : ℕ} {d' : Step} {p' : ℕ} {t' : Store} →
      D k d p t → D k' d' p' t' → k ≡ k' → SameStep d p t d' p' t'

linear_map : {D D' : Steps} → SameSteps D D' → Linear D → Linear D'
linear_map same L = record { one = λ x y e. L.one (same.back x) (same.back y) e }

-- a step, and what follows it
linear_after : {at : ℕ} {d : Step} {s : Store} {D : Steps} → Linear D → Linear (DueAfter at d s D)
linear_after {at} {d = d₀} {s} {D} L = record { one = same }
  where
    same : {k : ℕ} {d : Step} {p : ℕ} {t : Store} {k' : ℕ} {d' : Step} {p' : ℕ} {t' : Store} →
        DueAfter at d₀ s D k d p t → DueAfter at d₀ s D k' d' p' t' → k ≡ k' → SameStep d p t d' p' t'
    same at-step at-step e = is_same
    same at-step (after-step y) e = absurd (omega arith)
    same (after-step x) at-step e = absurd (omega arith)
    same (after-step x) (after-step y) e = L.one x y (omega arith)

-- a sequence
module _ {c : Command} {D : Steps} {E : Store → Steps} {s : Store} (before : AllBefore c s D) (L : Linear D)
    (M : (u : Store) → Linear (E u))
  where
    from-there : {u v : Store} {k : ℕ} {d : Step} {p : ℕ} {t : Store} → u ≡ v → E v k d p t → E u k d p t
    from-there {k = k} {d} {p} {t} e y = subst (λ w. E w k d p t) (sym e) y

    sequence-one : {k : ℕ} {d : Step} {p : ℕ} {t : Store} {k' : ℕ} {d' : Step} {p' : ℕ} {t' : Store} →
        DueSequence c D E s k d p t → DueSequence c D E s k' d' p' t' → k ≡ k' → SameStep d p t d' p' t'
    sequence-one (in_first x) (in_first y) e = L.one x y e
    sequence-one (in_first x) (in_second r y) e = let l = before.all-before x r in absurd (omega arith)
    sequence-one (in_second r x) (in_first y) e = let l = before.all-before y r in absurd (omega arith)
    sequence-one (in_second r x) (in_second r' y) e =
        let q = one-count r r' in (M _).one x (from-there (one_end r r') y) (omega arith)

    linear_sequence : Linear (DueSequence c D E s)
    linear_sequence = record { one = sequence-one }

-- a loop
module _ {b : Expr Boolean} {c : Command} {at : ℕ} {D : Store → Steps}
    (before : (s : Store) → AllBefore c s (D s)) (L : (s : Store) → Linear (D s))
  where
    loop-from : {u v : Store} {k : ℕ} {d : Step} {p : ℕ} {t : Store} → u ≡ v →
        DueLoop b c at D v k d p t → DueLoop b c at D u k d p t
    loop-from {k = k} {d} {p} {t} e y = subst (λ w. DueLoop b c at D w k d p t) (sym e) y

    loop-one : {s : Store} {k : ℕ} {d : Step} {p : ℕ} {t : Store} {k' : ℕ} {d' : Step} {p' : ℕ} {t' : Store} →
        DueLoop b c at D s k d p t → DueLoop b c at D s k' d' p' t' → k ≡ k' → SameStep d p t d' p' t'
    loop-one loop-test loop-test e = is_same
    loop-one loop-test (loop-body e' y) e = absurd (omega arith)
    loop-one loop-test (loop-again e' r y) e = absurd (omega arith)
    loop-one (loop-body e' x) loop-test e = absurd (omega arith)
    loop-one (loop-body e' x) (loop-body e'' y) e = (L _).one x y (omega arith)
    loop-one (loop-body e' x) (loop-again e'' r y) e =
        let l = (before _).all-before x r in absurd (omega arith)
    loop-one (loop-again e' r x) loop-test e = absurd (omega arith)
    loop-one (loop-again e' r x) (loop-body e'' y) e =
        let l = (before _).all-before y r in absurd (omega arith)
    loop-one (loop-again e' r x) (loop-again e'' r' y) e =
        let q = one-count r r' in loop-one x (loop-from (one_end r r') y) (omega arith)

    linear_loop : (s : Store) → Linear (DueLoop b c at D s)
    linear_loop s = record { one = loop-one }

-- the body of procedure p stands at `body_at p`
module _ {body_at : ℕ → ℕ} where
  -- single steps
  skip-linear : (at : ℕ) (s : Store) → Linear (Due body_at skip at s)
  skip-linear at s = record { one = same }
    where
      same : {k : ℕ} {d : Step} {p : ℕ} {t : Store} {k' : ℕ} {d' : Step} {p' : ℕ} {t' : Store} →
          Due body_at skip at s k d p t → Due body_at skip at s k' d' p' t' → k ≡ k' → SameStep d p t d' p' t'
      same due-skip due-skip e = is_same

  assert-linear : (b : Expr Boolean) (at : ℕ) (s : Store) → Linear (Due body_at (assert b) at s)
  assert-linear b at s = record { one = same }
    where
      same : {k : ℕ} {d : Step} {p : ℕ} {t : Store} {k' : ℕ} {d' : Step} {p' : ℕ} {t' : Store} →
          Due body_at (assert b) at s k d p t → Due body_at (assert b) at s k' d' p' t' → k ≡ k' → SameStep d p t d' p' t'
      same due-assert due-assert e = is_same

  assign-linear : (a : Assignment) (at : ℕ) (s : Store) → Linear (Due body_at (assign a) at s)
  assign-linear a at s = record { one = same }
    where
      same : {k : ℕ} {d : Step} {p : ℕ} {t : Store} {k' : ℕ} {d' : Step} {p' : ℕ} {t' : Store} →
          Due body_at (assign a) at s k d p t → Due body_at (assign a) at s k' d' p' t' → k ≡ k' → SameStep d p t d' p' t'
      same due-assign due-assign e = is_same

  command-linear : (c : Command) (at : ℕ) (s : Store) → Linear (Due body_at c at s)
  command-linear skip at s = skip-linear at s
  command-linear (sequence c c') at s =
      linear_map sequence-steps
      (linear_sequence (command-before c (at + 1) s) (command-linear c (at + 1) s)
      (λ u. command-linear c' (at + 1 + length (command_words c)) u))
  command-linear (assert b) at s = assert-linear b at s
  command-linear (assign a) at s = assign-linear a at s
  command-linear (if_else b c c') at s =
      branch (command-linear c (at + 1 + length (words b)) s)
      (command-linear c' (at + 1 + length (words b) + length (command_words c)) s) (value b s) refl
    where
      branch : Linear (Due body_at c (at + 1 + length (words b)) s) →
          Linear (Due body_at c' (at + 1 + length (words b) + length (command_words c)) s) → (v : Bool) → value b s ≡ v →
          Linear (Due body_at (if_else b c c') at s)
      branch L M true e = linear_map (then-steps e) (linear_after {d = tests b} L)
      branch L M false e = linear_map (else_steps e) (linear_after {d = tests b} M)
  command-linear (while b c) at s =
      let i = at + 1 + length (words b) in
      linear_map while-steps (linear_loop (command-before c i) (λ u. command-linear c i u) s)
  command-linear (for q r c) at s =
      linear_map for-steps (linear_sequence (command-before (assign (start q)) at s) (assign-linear (start q) at s)
      (linear_loop (turn-before q c at) λ u. linear_sequence (command-before c (at + 1) u) (command-linear c (at + 1) u)
      (assign-linear (increment q) at)))
  command-linear (call n c) at s = linear_map call-steps (linear_after {d = calls} (command-linear c (body_at n) s))

  -- THE LAW
  pub due-once : {c : Command} {i : ℕ} {s : Store} {k : ℕ} {d : Step} {p : ℕ} {t : Store}
      {k' : ℕ} {d' : Step} {p' : ℕ} {t' : Store} →
      Due body_at c i s k d p t → Due body_at c i s k' d' p' t' → k ≡ k' → SameStep d p t d' p' t'
  due-once {c} {i} {s} x y e = (command-linear c i s).one x y e
