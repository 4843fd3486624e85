-- What it means that a run on a budget agrees with the language's definition, and how agreement is put together.
-- Assumes nothing.
--     PassesBefore                    the steps before a count meet no refusal
--     Agrees                          an end, over what a run and a step that is due are
--     agrees_map                      other names for the same runs and steps
--     agrees_step, agrees_after       one step; a step and what follows it
--     agrees_sequence, agrees_loop    one run after another; the turns of a while
use mathlib.Core.Path.{◌≡◌, refl, sym, subst}
use mathlib.Core.Bool.{Bool, true, false}
use mathlib.Core.Option.{Option, none, some}
use Prim.Native.Nat.{ℕ, zero, suc, ◌+◌, ◌<◌, ◌≤◌}
use native.Mathlib.Omega.{arith}
use Rattle.language.specs.Syntax.{Boolean, Expr, Command, sequence, while}
use Rattle.language.specs.Store.{Store, value}
use Rattle.language.specs.Runs.{Runs, runs_sequence, runs_done, runs_again}
use Rattle.laws.proofs.Bools.{clash}
use Rattle.execution.specs.Lent.{Lent}
use Rattle.execution.specs.Evaluate.{Evaluation}
use Rattle.execution.specs.Run.{End, ended, stopped, on_ended, step, turns}
use Rattle.execution.specs.Due.{Step, tests}
use Rattle.execution.proofs.Small.{SmallExpression}
use Rattle.execution.proofs.Evaluated.{WorkedOut, is-worked, is-stopped, evaluated}
use Rattle.execution.proofs.Assigned.{Represents}
use Rattle.language.proofs.Once.{one_end, one-count}
use Rattle.execution.specs.Refusal.{refusal_of, step_refusal}
use Rattle.execution.proofs.Refusal.{refusal_left}
use Rattle.execution.proofs.Steps.{Steps, SameSteps, DueAfter, at-step, after-step, AllBefore}
use Rattle.execution.proofs.Steps.{DueSequence, in_first, in_second, DueLoop, loop-test, loop-body, loop-again}
use Rattle.execution.proofs.Steps.{loop-steps}

-- the steps before a count meet no refusal
pub record PassesBefore (D : Steps) (n : ℕ) : Type 0 where
  pub passes-before : {k : ℕ} {d : Step} {p : ℕ} {t : Store} → D k d p t → k < n → step_refusal d t ≡ none

-- `R k t`: a run of k steps to t; n is the budget
pub data Agrees (R : ℕ → Store → Type 0) (D : Steps) (n : ℕ) : End → Type 0 where
  agrees_ended : (k l : ℕ) {m : Lent} {t : Store} → R k t → PassesBefore D k → Represents m t → k + l ≡ n →
      Agrees R D n (ended l m)
  agrees_stopped : (k l : ℕ) {number p : ℕ} {d : Step} {m : Lent} {t : Store} →
      D k d p t → refusal_left l d t ≡ some number → PassesBefore D k → Represents m t → k + l ≡ n →
      Agrees R D n (stopped number p l m)

pub passes_none : {D : Steps} → PassesBefore D 0
passes_none = record { passes-before = λ x l. absurd (omega arith) }

passes-map : {D D' : Steps} {n : ℕ} → SameSteps D D' → PassesBefore D n → PassesBefore D' n
passes-map same f = record { passes-before = λ x l. f.passes-before (same.back x) l }

pub agrees_map : {R R' : ℕ → Store → Type 0} {D D' : Steps} {n : ℕ} {x : End} →
    ((k : ℕ) (t : Store) → R k t → R' k t) → SameSteps D D' → Agrees R D n x → Agrees R' D' n x
agrees_map runs same (agrees_ended k l r f h e) = agrees_ended k l (runs _ _ r) (passes-map same f) h e
agrees_map runs same (agrees_stopped k l x q f h e) = agrees_stopped k l (same.to x) q (passes-map same f) h e

-- one step, that is due at once: o is what its operands come to, by the refusal r that they meet first
pub agrees_step : {A : Type 0} {W : A → Type 0} {R : ℕ → Store → Type 0} {D : Steps} (at n : ℕ) {m : Lent} {s : Store}
    (d : Step) {r : Option ℕ} {o : Evaluation A} {f : A → ℕ → End} →
    D 0 d at s → Represents m s → WorkedOut W r o → ((k : ℕ) → r ≡ some k → step_refusal d s ≡ some k) →
    ((l : ℕ) (v : A) → W v → r ≡ none → n ≡ suc l → Agrees R D n (f v l)) → Agrees R D n (step at n m o f)
agrees_step at zero d due h w said next = agrees_stopped 0 0 due refl passes_none h (omega arith)
agrees_step at (suc n) d due h (is-worked {a = v} w) said next = next n v w refl refl
agrees_step at (suc n) d due h (is-stopped {k = k}) said next =
    agrees_stopped 0 (suc n) due (said k refl) passes_none h (omega arith)

-- a test is refused as its expression is
pub tests-said : (b : Expr Boolean) (s : Store) (k : ℕ) → refusal_of b s ≡ some k → step_refusal (tests b) s ≡ some k
unfolding step_refusal
tests-said b s k e = e

pub tests-pass : (b : Expr Boolean) (s : Store) → refusal_of b s ≡ none → step_refusal (tests b) s ≡ none
unfolding step_refusal
tests-pass b s e = e

-- a step and what follows it
passes-after : {at : ℕ} {d : Step} {s : Store} {D : Steps} {n : ℕ} → step_refusal d s ≡ none → PassesBefore D n →
    PassesBefore (DueAfter at d s D) (suc n)
passes-after {at} {d} {s} {D} {n} h f = record { passes-before = each }
  where
    each : {k p : ℕ} {d' : Step} {t : Store} → DueAfter at d s D k d' p t → k < suc n → step_refusal d' t ≡ none
    each at-step l = h
    each (after-step x) l = f.passes-before x (omega arith)

pub agrees_after : {R R' : ℕ → Store → Type 0} {D : Steps} {at : ℕ} {d : Step} {s : Store} {l n : ℕ} {x : End} →
    ((k : ℕ) (t : Store) → R k t → R' (suc k) t) → step_refusal d s ≡ none → n ≡ suc l → Agrees R D l x →
    Agrees R' (DueAfter at d s D) n x
agrees_after runs h e (agrees_ended k j r f holds e') =
    agrees_ended (suc k) j (runs _ _ r) (passes-after h f) holds (omega arith)
agrees_after runs h e (agrees_stopped k j r q f holds e') =
    agrees_stopped (suc k) j (after-step r) q (passes-after h f) holds (omega arith)

-- a run, then another from where it ended
module _ {c : Command} {D : Steps} {E : Store → Steps} {s : Store} (before : AllBefore c s D) where
  passes-first : {n p : ℕ} {d : Step} {t : Store} → D n d p t → PassesBefore D n → PassesBefore (DueSequence c D E s) n
  passes-first {n} stop f = record { passes-before = each }
    where
      each : {k p : ℕ} {d : Step} {t : Store} → DueSequence c D E s k d p t → k < n → step_refusal d t ≡ none
      each (in_first x) l = f.passes-before x l
      each (in_second r x) l = let l' = before.all-before stop r in absurd (omega arith)

  passes-second : {j n : ℕ} {u : Store} → Runs c j s u → PassesBefore D j → PassesBefore (E u) n →
      PassesBefore (DueSequence c D E s) (j + n)
  passes-second {j} {n} {u} r f g = record { passes-before = each }
    where
      each : {k p : ℕ} {d : Step} {t : Store} → DueSequence c D E s k d p t → k < j + n → step_refusal d t ≡ none
      each (in_first x) l = f.passes-before x (before.all-before x r)
      each (in_second {k = k} {p = p} {d = d} {t = t} r' x) l =
          let e = one-count r r' in
          g.passes-before (subst (λ v. E v k d p t) (sym (one_end r r')) x) (omega arith)

  pub agrees_sequence : {c' : Command} {n : ℕ} {x : End} {f : ℕ → Lent → End} → Agrees (λ k t. Runs c k s t) D n x →
      ((l : ℕ) (m : Lent) (t : Store) → l ≤ n → Represents m t → Agrees (λ k u. Runs c' k t u) (E t) l (f l m)) →
      Agrees (λ k t. Runs (sequence c c') k s t) (DueSequence c D E s) n (on_ended x f)
  agrees_sequence (agrees_stopped k l x q f h e) next = agrees_stopped k l (in_first x) q (passes-first x f) h e
  agrees_sequence {c'} {n} (agrees_ended k l {m = m} {t = t} r f h e) next = second (next l m t (omega arith) h)
    where
      second : {x : End} → Agrees (λ k u. Runs c' k t u) (E t) l x →
          Agrees (λ k t. Runs (sequence c c') k s t) (DueSequence c D E s) n x
      second (agrees_ended i j r' f' h' e') =
          agrees_ended (k + i) j (runs_sequence r r') (passes-second r f f') h' (omega arith)
      second (agrees_stopped i j x q f' h' e') =
          agrees_stopped (k + i) j (in_second r x) q (passes-second r f f') h' (omega arith)

-- a loop whose test is false is the test alone
module _ {b : Expr Boolean} {c : Command} {at : ℕ} {D : Store → Steps} {s : Store} where
  passes-done : value b s ≡ false → step_refusal (tests b) s ≡ none → PassesBefore (DueLoop b c at D s) 1
  passes-done e f = record { passes-before = λ x l. each x }
    where
      each : {k p : ℕ} {d : Step} {t : Store} → DueLoop b c at D s k d p t → step_refusal d t ≡ none
      each loop-test = f
      each (loop-body e' x) = clash e' e
      each (loop-again e' r x) = clash e' e

again-runs : {b : Expr Boolean} {c : Command} {k : ℕ} {s t : Store} → value b s ≡ true →
    Runs (sequence c (while b c)) k s t → Runs (while b c) (suc k) s t
again-runs e (runs_sequence r q) = runs_again e r q

abbrev LoopAgrees : Expr Boolean → Command → ℕ → (Store → Steps) → Store → ℕ → End → Type 0
LoopAgrees b c at D s n x = Agrees (λ k t. Runs (while b c) k s t) (DueLoop b c at D s) n x

-- each turn takes a step, so as many turns as steps left are enough
module _ (b : Expr Boolean) (c : Command) (at : ℕ) (D : Store → Steps) (small : SmallExpression b)
    (before : (s : Store) → AllBefore c s (D s)) (body : ℕ → Lent → End)
    (body-agrees : (n : ℕ) (m : Lent) (s : Store) → Represents m s → Agrees (λ k t. Runs c k s t) (D s) n (body n m))
  where
    pub agrees_loop : (fuel n : ℕ) → n ≤ fuel → (m : Lent) (s : Store) → Represents m s →
        LoopAgrees b c at D s n (turns fuel b body at n m)
    unfolding turns
    agrees_loop zero n l m s h =
        let none : n ≡ 0 = omega arith in
        rw none (agrees_stopped 0 0 loop-test refl passes_none h (omega arith))
    agrees_loop (suc fuel) n l m s h =
        agrees_step at n (tests b) loop-test h (evaluated m s h.held b small) (tests-said b s)
        (turn (agrees_loop fuel))
      where
        turn :
            ((n : ℕ) → n ≤ fuel → (m : Lent) (s : Store) → Represents m s →
            LoopAgrees b c at D s n (turns fuel b body at n m)) →
            (j : ℕ) (v : Bool) → v ≡ value b s → refusal_of b s ≡ none → n ≡ suc j →
            LoopAgrees b c at D s n (elim v [ true ↦ on_ended (body j m) (turns fuel b body at) | false ↦ ended j m ])
        turn rest j false e f q = agrees_ended 1 j (runs_done (sym e)) (passes-done (sym e) (tests-pass b s f)) h (omega arith)
        turn rest j true e f q =
            agrees_map (λ k t r. r) (loop-steps (sym e))
            (agrees_after (λ k t r. again-runs (sym e) r) (tests-pass b s f) q
            (agrees_sequence (before s) (body-agrees j m s h) λ i m' t i≤j h'. rest i (omega arith) m' t h'))
