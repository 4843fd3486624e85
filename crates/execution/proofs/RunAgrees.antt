-- A run on a budget agrees with the language's definition, from every store that holds the lent values: where it ends
-- the definition ends, and where it stops that step is due and refused as the number says. By induction on the command:
-- each command's steps are one step, a sequence or a loop.
-- Assumes nothing.
--     CommandAgrees, run-agrees
use mathlib.Core.Path.{◌≡◌, refl, sym, ap, ap₂}
use mathlib.Core.Bool.{Bool, true, false, cond}
use mathlib.Core.List.{[], ◌∷◌}
use mathlib.Core.Option.{none, some, none-ne-some}
use Prim.Native.Nat.{ℕ, suc, ◌+◌}
use native.Mathlib.Omega.{arith}
use lib.ListN.{length}
use Rattle.language.specs.Syntax.{Boolean, Expr, Assignment}
use Rattle.language.specs.Syntax.{Command, skip, sequence, assert, assign, if_else, while, for, call}
use Rattle.language.specs.Store.{Store, value}
use Rattle.language.specs.Runs.{start, increment, Runs, runs_skip, runs_assert, runs_assign}
use Rattle.language.specs.Runs.{runs_then, runs_else, runs_for, runs_call}
use Rattle.rules.specs.Words.{words, command_words}
use Rattle.execution.specs.Lent.{Lent}
use Rattle.execution.specs.Run.{End, ended, stopped, on_ended, assigns, run}
use Rattle.execution.specs.Due.{Step, skips, calls, asserts, tests, gives}
use Rattle.execution.specs.Due.{Due, due-skip, due-assert, due-assign, due-if}
use Rattle.execution.proofs.Small.{SmallExpression, SmallAssignment, SmallCommand}
use Rattle.execution.proofs.Evaluated.{is-worked, evaluated}
use Rattle.execution.proofs.Assigned.{Represents, given_holds}
use Rattle.execution.specs.Refusal.{unless, first, refusal_of, step_refusal}
use Rattle.execution.proofs.Steps.{then-steps, else_steps, sequence-steps, while-steps, for-steps, call-steps}
use Rattle.execution.proofs.Steps.{at-step, Test, Turn, InTurn, turn-before, command-before}
use Rattle.execution.proofs.Agrees.{Agrees, agrees_ended, agrees_stopped, passes_none, tests-said, tests-pass}
use Rattle.execution.proofs.Agrees.{agrees_map, agrees_step, agrees_after, agrees_sequence, agrees_loop}

-- the run of a command agrees with the definition
abbrev pub CommandAgrees : (ℕ → ℕ) → Command → ℕ → Store → ℕ → End → Type 0
CommandAgrees body_at c at s n x = Agrees (λ k t. Runs c k s t) (Due body_at c at s) n x

-- ---- single steps
skips-pass : (s : Store) → step_refusal skips s ≡ none
unfolding step_refusal
skips-pass s = refl

calls-pass : (s : Store) → step_refusal calls s ≡ none
unfolding step_refusal
calls-pass s = refl

none-some : {A : Type 0} {k : ℕ} → none ≡ some k → A
none-some {k = k} e = absurd (none-ne-some k e)

-- 12 is tried after the test's own refusals
asserts-said : (b : Expr Boolean) (s : Store) (k : ℕ) → refusal_of b s ≡ some k → step_refusal (asserts b) s ≡ some k
unfolding step_refusal first
asserts-said b s k e = ap (λ r. first (r ∷ unless (value b s) 12 ∷ [])) e

module _ (b : Expr Boolean) (s : Store) (e : refusal_of b s ≡ none) where
  asserts-pass : value b s ≡ true → step_refusal (asserts b) s ≡ none
  unfolding step_refusal first
  asserts-pass v = ap₂ (λ r t. first (r ∷ unless t 12 ∷ [])) e v

  asserts-fail : value b s ≡ false → step_refusal (asserts b) s ≡ some 12
  unfolding step_refusal first
  asserts-fail v = ap₂ (λ r t. first (r ∷ unless t 12 ∷ [])) e v

-- the body of procedure p stands at `body_at p`
module _ {body_at : ℕ → ℕ} where
  skip-alone : {at : ℕ} {s : Store} {k : ℕ} {d : Step} {p : ℕ} {t : Store} → step_refusal skips s ≡ none →
      Due body_at skip at s k d p t → step_refusal d t ≡ none
  skip-alone f due-skip = f

  assert-alone : {b : Expr Boolean} {at : ℕ} {s : Store} {k : ℕ} {d : Step} {p : ℕ} {t : Store} →
      step_refusal (asserts b) s ≡ none → Due body_at (assert b) at s k d p t → step_refusal d t ≡ none
  assert-alone f due-assert = f

  assign-alone : {a : Assignment} {at : ℕ} {s : Store} {k : ℕ} {d : Step} {p : ℕ} {t : Store} →
      step_refusal (gives a) s ≡ none → Due body_at (assign a) at s k d p t → step_refusal d t ≡ none
  assign-alone f due-assign = f

  assigns-agrees : (a : Assignment) → SmallAssignment a → (at n : ℕ) (m : Lent) (s : Store) → Represents m s →
      CommandAgrees body_at (assign a) at s n (assigns a at n m)
  assigns-agrees a small at n m s h =
      agrees_step at n (gives a) due-assign h (given_holds a small m s h) (λ k e. e) λ l m' h' f e.
      agrees_ended 1 l runs_assign (record { passes-before = λ x _. assign-alone f x }) h' (omega arith)

  -- ---- THE LAW
  pub run-agrees : (c : Command) → SmallCommand c → (at n : ℕ) (m : Lent) (s : Store) → Represents m s →
      CommandAgrees body_at c at s n (run body_at c at n m)
  unfolding run SmallCommand SmallAssignment SmallExpression
  run-agrees skip small at n m s h =
      agrees_step {W = λ m'. Represents m' s} at n skips due-skip h (is-worked h) (λ k e. none-some e) λ l m' h' f e.
      agrees_ended 1 l runs_skip (record { passes-before = λ x _. skip-alone (skips-pass s) x }) h' (omega arith)
  run-agrees (sequence c c') small at n m s h =
      agrees_map (λ k t r. r) sequence-steps
      (agrees_sequence (command-before c (at + 1) s) (run-agrees c small.0 (at + 1) n m s h) λ l m' t _ h'.
      run-agrees c' small.1 (at + 1 + length (command_words c)) l m' t h')
  run-agrees (assert b) small at n m s h =
      agrees_step at n (asserts b) due-assert h (evaluated m s h.held b small) (asserts-said b s) asserted
    where
      asserted : (l : ℕ) (v : Bool) → v ≡ value b s → refusal_of b s ≡ none → n ≡ suc l →
          CommandAgrees body_at (assert b) at s n (cond v (ended l m) (stopped 12 at n m))
      asserted l true e f q =
          let pass = asserts-pass b s f (sym e) in
          agrees_ended 1 l (runs_assert (sym e)) (record { passes-before = λ x _. assert-alone pass x }) h (omega arith)
      asserted l false e f q =
          rw q (agrees_stopped 0 (suc l) due-assert (asserts-fail b s f (sym e)) passes_none h (omega arith))
  run-agrees (assign a) small at n m s h = assigns-agrees a small at n m s h
  run-agrees (if_else b c c') small at n m s h =
      agrees_step at n (tests b) due-if h (evaluated m s h.held b small.0) (tests-said b s) λ l v e f q.
      branch v e (tests-pass b s f) q
      (run-agrees c small.1 (at + 1 + length (words b)) l m s h)
      (run-agrees c' small.2 (at + 1 + length (words b) + length (command_words c)) l m s h)
    where
      branch : {l : ℕ} {x y : End} (v : Bool) → v ≡ value b s → step_refusal (tests b) s ≡ none → n ≡ suc l →
          CommandAgrees body_at c (at + 1 + length (words b)) s l x →
          CommandAgrees body_at c' (at + 1 + length (words b) + length (command_words c)) s l y →
          CommandAgrees body_at (if_else b c c') at s n (elim v [ true ↦ x | false ↦ y ])
      branch true e f q x y =
          agrees_map (λ k t r. r) (then-steps (sym e)) (agrees_after (λ k t r. runs_then (sym e) r) f q x)
      branch false e f q x y =
          agrees_map (λ k t r. r) (else_steps (sym e)) (agrees_after (λ k t r. runs_else (sym e) r) f q y)
  run-agrees (while b c) small at n m s h =
      let i = at + 1 + length (words b) in
      agrees_map (λ k t r. r) while-steps
      (agrees_loop b c at (Due body_at c i) small.0 (command-before c i) (run body_at c i)
      (λ n m s h. run-agrees c small.1 i n m s h) n n (omega arith) m s h)
  run-agrees (for q r c) small at n m s h =
      agrees_map (λ k t x. runs_for x) for-steps
      (agrees_sequence (command-before (assign (start q)) at s)
      (assigns-agrees (start q) (small.0, tt) at n m s h) λ l m' t _ h'.
      agrees_loop (Test q r) (Turn q c) at (InTurn body_at q c at) (small.0, small.1) (turn-before q c at)
      (λ k m''. on_ended (run body_at c (at + 1) k m'') (assigns (increment q) at))
      (turn-agrees (λ n m s h. run-agrees c small.2 (at + 1) n m s h)) l l (omega arith) m' t h')
    where
      turn-agrees :
          ((n : ℕ) (m : Lent) (s : Store) → Represents m s → CommandAgrees body_at c (at + 1) s n (run body_at c (at + 1) n m)) →
          (n : ℕ) (m : Lent) (s : Store) → Represents m s →
          Agrees (λ k t. Runs (Turn q c) k s t) (InTurn body_at q c at s) n
          (on_ended (run body_at c (at + 1) n m) (assigns (increment q) at))
      turn-agrees body n m s h =
          agrees_sequence (command-before c (at + 1) s) (body n m s h) λ l m' t _ h'.
          assigns-agrees (increment q) (small.0, (small.0, tt)) at l m' t h'
  run-agrees (call q c) small at n m s h =
      agrees_map (λ k t r. r) call-steps
      (agrees_step {W = λ m'. Represents m' s} at n calls at-step h (is-worked h) (λ k e. none-some e) λ l m' h' f e.
      agrees_after (λ k t r. runs_call r) (calls-pass s) e (run-agrees c small (body_at q) l m' s h'))
