-- The steps that are due in a command are one step, those of a sequence or those of a loop.
-- Assumes nothing.
--     Steps, SameSteps                   steps; two names for the same
--     DueAfter, DueSequence, DueLoop     a step and what follows it; a sequence; a while
--     then-steps, else_steps, sequence-steps, while-steps, for-steps, call-steps     each command's steps
--     AllBefore, command-before          steps that come before the end of each run
use mathlib.Core.Path.{◌≡◌, refl, sym, subst}
use mathlib.Core.Bool.{true, false}
use Prim.Native.Nat.{ℕ, suc, ◌+◌, ◌<◌}
use native.Mathlib.Numerals.{one-add}
use native.Mathlib.Omega.{arith}
use lib.ListN.{length}
use Rattle.language.specs.Syntax.{at_most, Boolean, Expr, scalar, compare}
use Rattle.language.specs.Syntax.{Assignment, Command, sequence, assign, if_else, while, for, call}
use Rattle.language.specs.Store.{Store, value}
use Rattle.language.specs.Runs.{start, increment, assigned, Runs, runs_sequence, runs_assign}
use Rattle.rules.specs.Words.{words, command_words}
use Rattle.laws.proofs.Bools.{clash}
use Rattle.execution.specs.Due.{Step, calls, tests, gives}
use Rattle.execution.specs.Due.{Due, due-first, due-second, due-assign, due-if, due-then, due-else}
use Rattle.execution.specs.Due.{due-while, due-body, due-again, due-start, due-turn, due-call, due-called}
use Rattle.execution.specs.Due.{DueTurn, due-test, due-within, due-increment, due-next}
use Rattle.language.proofs.Once.{one-count}
use Rattle.execution.proofs.Before.{due-before}

-- `D k d p t`: after k steps d is due, at place p, in t
abbrev pub Steps : Type 1
Steps = ℕ → Step → ℕ → Store → Type 0

-- two names for the same steps
pub record SameSteps (D D' : Steps) : Type 0 where
  pub to : {k : ℕ} {d : Step} {p : ℕ} {t : Store} → D k d p t → D' k d p t
  pub back : {k : ℕ} {d : Step} {p : ℕ} {t : Store} → D' k d p t → D k d p t

-- a step d, and then what is due after it
pub data DueAfter (at : ℕ) (d : Step) (s : Store) (D : Steps) : ℕ → Step → ℕ → Store → Type 0 where
  at-step : DueAfter at d s D 0 d at s
  after-step : {k p : ℕ} {d' : Step} {t : Store} → D k d' p t → DueAfter at d s D (suc k) d' p t

-- what is due in a sequence: D in its first command c, E from where that ended
pub data DueSequence (c : Command) (D : Steps) (E : Store → Steps) (s : Store) : ℕ → Step → ℕ → Store → Type 0 where
  in_first : {k p : ℕ} {d : Step} {t : Store} → D k d p t → DueSequence c D E s k d p t
  in_second : {j k p : ℕ} {d : Step} {u t : Store} → Runs c j s u → E u k d p t → DueSequence c D E s (j + k) d p t

-- what is due in a while of c: its test, D in its body, and its later turns
pub data DueLoop (b : Expr Boolean) (c : Command) (at : ℕ) (D : Store → Steps) : Store → ℕ → Step → ℕ → Store → Type 0
  where
    loop-test : {s : Store} → DueLoop b c at D s 0 (tests b) at s
    loop-body : {k p : ℕ} {d : Step} {s t : Store} → value b s ≡ true → D s k d p t → DueLoop b c at D s (suc k) d p t
    loop-again : {j k p : ℕ} {d : Step} {s u t : Store} → value b s ≡ true → Runs c j s u → DueLoop b c at D u k d p t →
        DueLoop b c at D s (suc (j + k)) d p t

-- a loop whose test is true is a step and then a sequence
pub loop-steps : {b : Expr Boolean} {c : Command} {at : ℕ} {D : Store → Steps} {s : Store} → value b s ≡ true →
    SameSteps (DueAfter at (tests b) s (DueSequence c (D s) (DueLoop b c at D) s)) (DueLoop b c at D s)
loop-steps {b} {c} {at} {D} {s} e = record { to = of; back = is }
  where
    of : {k : ℕ} {d : Step} {p : ℕ} {t : Store} →
        DueAfter at (tests b) s (DueSequence c (D s) (DueLoop b c at D) s) k d p t → DueLoop b c at D s k d p t
    of at-step = loop-test
    of (after-step (in_first x)) = loop-body e x
    of (after-step (in_second r x)) = loop-again e r x

    is : {k : ℕ} {d : Step} {p : ℕ} {t : Store} → DueLoop b c at D s k d p t →
        DueAfter at (tests b) s (DueSequence c (D s) (DueLoop b c at D) s) k d p t
    is loop-test = at-step
    is (loop-body e' x) = after-step (in_first x)
    is (loop-again e' r x) = after-step (in_second r x)

-- every step of D comes before the end of each run of c from s
pub record AllBefore (c : Command) (s : Store) (D : Steps) : Type 0 where
  pub all-before : {k : ℕ} {d : Step} {p : ℕ} {t : Store} {n : ℕ} {u : Store} → D k d p t → Runs c n s u →
      k < n

abbrev pub Test : ℕ → ℕ → Expr Boolean
Test q r = compare at_most (scalar q) (scalar r)

abbrev pub Turn : ℕ → Command → Command
Turn q c = sequence c (assign (increment q))

abbrev pub InTurn : (ℕ → ℕ) → ℕ → Command → ℕ → Store → Steps
InTurn body_at q c at s = DueSequence c (Due body_at c (at + 1) s) (Due body_at (assign (increment q)) at) s

abbrev pub InFor : (ℕ → ℕ) → ℕ → ℕ → Command → ℕ → Store → Steps
InFor body_at q r c at s =
    DueSequence (assign (start q)) (Due body_at (assign (start q)) at s) (DueLoop (Test q r) (Turn q c) at (InTurn body_at q c at)) s

-- an assignment takes one step, and where it ends
assign_one : {a : Assignment} {n : ℕ} {s t : Store} → Runs (assign a) n s t → n ≡ 1
assign_one runs_assign = refl

assign_end : {a : Assignment} {n : ℕ} {s t : Store} → Runs (assign a) n s t → t ≡ assigned a s
assign_end runs_assign = refl

-- the body of procedure p stands at `body_at p`
module _ {body_at : ℕ → ℕ} where
  pub command-before : (c : Command) (at : ℕ) (s : Store) → AllBefore c s (Due body_at c at s)
  command-before c at s = record { all-before = λ h r. due-before h r }

  -- the steps of an if whose test is true, or false
  pub then-steps : {b : Expr Boolean} {c c' : Command} {at : ℕ} {s : Store} → value b s ≡ true →
      SameSteps (DueAfter at (tests b) s (Due body_at c (at + 1 + length (words b)) s)) (Due body_at (if_else b c c') at s)
  then-steps {b} {c} {c'} {at} {s} e = record { to = of; back = is }
    where
      of : {k : ℕ} {d : Step} {p : ℕ} {t : Store} →
          DueAfter at (tests b) s (Due body_at c (at + 1 + length (words b)) s) k d p t → Due body_at (if_else b c c') at s k d p t
      of at-step = due-if
      of (after-step x) = due-then e x

      is : {k : ℕ} {d : Step} {p : ℕ} {t : Store} → Due body_at (if_else b c c') at s k d p t →
          DueAfter at (tests b) s (Due body_at c (at + 1 + length (words b)) s) k d p t
      is due-if = at-step
      is (due-then e' x) = after-step x
      is (due-else e' x) = clash e e'

  pub else_steps : {b : Expr Boolean} {c c' : Command} {at : ℕ} {s : Store} → value b s ≡ false →
      SameSteps (DueAfter at (tests b) s (Due body_at c' (at + 1 + length (words b) + length (command_words c)) s))
      (Due body_at (if_else b c c') at s)
  else_steps {b} {c} {c'} {at} {s} e = record { to = of; back = is }
    where
      of : {k : ℕ} {d : Step} {p : ℕ} {t : Store} →
          DueAfter at (tests b) s (Due body_at c' (at + 1 + length (words b) + length (command_words c)) s) k d p t →
          Due body_at (if_else b c c') at s k d p t
      of at-step = due-if
      of (after-step x) = due-else e x

      is : {k : ℕ} {d : Step} {p : ℕ} {t : Store} → Due body_at (if_else b c c') at s k d p t →
          DueAfter at (tests b) s (Due body_at c' (at + 1 + length (words b) + length (command_words c)) s) k d p t
      is due-if = at-step
      is (due-then e' x) = clash e' e
      is (due-else e' x) = after-step x

  -- the steps of a call
  pub call-steps : {n : ℕ} {c : Command} {at : ℕ} {s : Store} →
      SameSteps (DueAfter at calls s (Due body_at c (body_at n) s)) (Due body_at (call n c) at s)
  call-steps {n} {c} {at} {s} = record { to = of; back = is }
    where
      of : {k : ℕ} {d : Step} {p : ℕ} {t : Store} →
          DueAfter at calls s (Due body_at c (body_at n) s) k d p t → Due body_at (call n c) at s k d p t
      of at-step = due-call
      of (after-step x) = due-called x

      is : {k : ℕ} {d : Step} {p : ℕ} {t : Store} → Due body_at (call n c) at s k d p t →
          DueAfter at calls s (Due body_at c (body_at n) s) k d p t
      is due-call = at-step
      is (due-called x) = after-step x

  -- the steps of a sequence
  pub sequence-steps : {c c' : Command} {at : ℕ} {s : Store} →
      SameSteps (DueSequence c (Due body_at c (at + 1) s) (Due body_at c' (at + 1 + length (command_words c))) s)
      (Due body_at (sequence c c') at s)
  sequence-steps {c} {c'} {at} {s} = record { to = of; back = is }
    where
      of : {k : ℕ} {d : Step} {p : ℕ} {t : Store} →
          DueSequence c (Due body_at c (at + 1) s) (Due body_at c' (at + 1 + length (command_words c))) s k d p t →
          Due body_at (sequence c c') at s k d p t
      of (in_first x) = due-first x
      of (in_second r x) = due-second r x

      is : {k : ℕ} {d : Step} {p : ℕ} {t : Store} → Due body_at (sequence c c') at s k d p t →
          DueSequence c (Due body_at c (at + 1) s) (Due body_at c' (at + 1 + length (command_words c))) s k d p t
      is (due-first x) = in_first x
      is (due-second r x) = in_second r x

  -- the steps of a while
  while-of : {b : Expr Boolean} {c : Command} {at : ℕ} {s : Store} {k : ℕ} {d : Step} {p : ℕ} {t : Store} →
      DueLoop b c at (Due body_at c (at + 1 + length (words b))) s k d p t → Due body_at (while b c) at s k d p t
  while-of loop-test = due-while
  while-of (loop-body e x) = due-body e x
  while-of (loop-again e r x) = due-again e r (while-of x)

  while-is : {b : Expr Boolean} {c : Command} {at : ℕ} {s : Store} {k : ℕ} {d : Step} {p : ℕ} {t : Store} →
      Due body_at (while b c) at s k d p t → DueLoop b c at (Due body_at c (at + 1 + length (words b))) s k d p t
  while-is due-while = loop-test
  while-is (due-body e x) = loop-body e x
  while-is (due-again e r x) = loop-again e r (while-is x)

  pub while-steps : {b : Expr Boolean} {c : Command} {at : ℕ} {s : Store} →
      SameSteps (DueLoop b c at (Due body_at c (at + 1 + length (words b))) s) (Due body_at (while b c) at s)
  while-steps = record { to = while-of; back = while-is }

  -- the steps of a `for`: its start, and then a loop whose body is the command and the increment
  pub turn-before : (q : ℕ) (c : Command) (at : ℕ) (s : Store) → AllBefore (Turn q c) s (InTurn body_at q c at s)
  turn-before q c at s = record { all-before = each }
    where
      each : {k : ℕ} {d : Step} {p : ℕ} {t : Store} {n : ℕ} {u : Store} → InTurn body_at q c at s k d p t →
          Runs (Turn q c) n s u → k < n
      each (in_first x) (runs_sequence r v) =
          let o = assign_one v in
          let l = due-before x r in omega arith
      each (in_second r due-assign) (runs_sequence r' v) =
          let o = assign_one v in
          let e = one-count r r' in omega arith

  turns-of : {q r : ℕ} {c : Command} {at : ℕ} {s : Store} {k : ℕ} {d : Step} {p : ℕ} {t : Store} →
      DueLoop (Test q r) (Turn q c) at (InTurn body_at q c at) s k d p t → DueTurn body_at q r c at s k d p t
  turns-of loop-test = due-test
  turns-of (loop-body e (in_first x)) = due-within e x
  turns-of {q} {r} {c} {at} {s} (loop-body e (in_second {j = j} {u = u} x due-assign)) =
      let same : suc j ≡ suc (j + 0) = omega arith in
      subst (λ n. DueTurn body_at q r c at s n (gives (increment q)) at u) same (due-increment e x)
  turns-of {q} {r} {c} {at} {s} {d = d} {p} {t} (loop-again {k = k} e (runs_sequence {m = m} {n = n} x v) y) =
      let one = assign_one v in
      let same : suc (m + suc k) ≡ suc (m + n + k) = omega arith in
      let next = subst (λ z. DueTurn body_at q r c at z k d p t) (assign_end v) (turns-of y) in
      subst (λ j. DueTurn body_at q r c at s j d p t) same (due-next e x next)

  turns-is : {q r : ℕ} {c : Command} {at : ℕ} {s : Store} {k : ℕ} {d : Step} {p : ℕ} {t : Store} →
      DueTurn body_at q r c at s k d p t → DueLoop (Test q r) (Turn q c) at (InTurn body_at q c at) s k d p t
  turns-is due-test = loop-test
  turns-is (due-within e x) = loop-body e (in_first x)
  turns-is {q} {r} {c} {at} {s} (due-increment {m = m} {u = u} e x) =
      let same : suc (m + 0) ≡ suc m = omega arith in
      subst (λ n. DueLoop (Test q r) (Turn q c) at (InTurn body_at q c at) s n (gives (increment q)) at u) same
      (loop-body e (in_second x due-assign))
  turns-is {q} {r} {c} {at} {s} {d = d} {p} {t} (due-next {m = m} {n = n} e x y) =
      let same : suc (m + 1 + n) ≡ suc (m + suc n) = omega arith in
      subst (λ n. DueLoop (Test q r) (Turn q c) at (InTurn body_at q c at) s n d p t) same
      (loop-again e (runs_sequence x runs_assign) (turns-is y))

  for-of : {q r : ℕ} {c : Command} {at : ℕ} {s : Store} {k : ℕ} {d : Step} {p : ℕ} {t : Store} →
      InFor body_at q r c at s k d p t → Due body_at (for q r c) at s k d p t
  for-of (in_first due-assign) = due-start
  for-of {q} {r} {c} {at} {s} {d = d} {p} {t} (in_second {k = k} runs_assign x) =
      subst (λ n. Due body_at (for q r c) at s n d p t) (sym (one-add k)) (due-turn (turns-of x))

  for-is : {q r : ℕ} {c : Command} {at : ℕ} {s : Store} {k : ℕ} {d : Step} {p : ℕ} {t : Store} →
      Due body_at (for q r c) at s k d p t → InFor body_at q r c at s k d p t
  for-is due-start = in_first due-assign
  for-is {q} {r} {c} {at} {s} {d = d} {p} {t} (due-turn {n = n} x) =
      subst (λ k. InFor body_at q r c at s k d p t) (one-add n) (in_second runs_assign (turns-is x))

  pub for-steps : {q r : ℕ} {c : Command} {at : ℕ} {s : Store} → SameSteps (InFor body_at q r c at s) (Due body_at (for q r c) at s)
  for-steps = record { to = for-of; back = for-is }
