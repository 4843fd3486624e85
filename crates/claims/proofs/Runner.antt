-- Demand 2 of the runner, from the laws of its definition.
-- Assumes nothing.
--     runner    the claim
use mathlib.Core.Path.{sym, subst}
use mathlib.Core.List.{List}
use mathlib.Core.Logic.{inl, inr}
use Prim.Native.Nat.{ℕ, ◌≤◌}
use native.Mathlib.Omega.{arith}
use Rattle.language.specs.Store.{Store}
use Rattle.rules.specs.Context.{Limits}
use Rattle.layout.specs.File.{File}
use Rattle.execution.specs.Lent.{Lent, store_of}
use Rattle.execution.specs.Ran.{Answer, Ran, run_of}
use Rattle.execution.specs.Refusal.{refusal}
use Rattle.execution.specs.Executes.{Executes, ends, stops}
use Rattle.execution.proofs.ReadFile.{ReadingNumber, file-refused}
use Rattle.execution.proofs.Order.{not-read_is, over-budget_is, ill_sized_is}
use Rattle.execution.proofs.Order.{StepJudged, not-read, over-budget, ill_sized, is-run, judged}
use Rattle.execution.proofs.Exact.{held-itself, executes-number, executed, reported, steps-within}
use Rattle.claims.specs.Runner.{Starts, OfRun, Runner}

-- what the definition comes to is an answer of a run
of-run : (budget : ℕ) {f : File} {s : Store} {a : Answer} {n : ℕ} {t : Store} → Executes (refusal budget) f s a n t → OfRun a
of-run budget (ends u r) = tt
of-run budget (stops u due e) = executes-number budget (stops u due e)

-- a refusal at reading is none of a run
not-of_run : (k : ℕ) → ReadingNumber k → (12 ≤ k) × (k ≤ 15) → ⊥
not-of_run k h x = elim h.1 [ inl l ↦ omega (arith, l, x.0) | inr l ↦ omega (arith, l, x.1) ]

module _ (limits : Limits) (bytes : List ℕ) (budget : ℕ) (m : Lent) where
  ran : (f : File) → Starts limits bytes budget m f → OfRun (run_of limits bytes budget m).answer
  ran f h =
      let x = executed limits bytes budget m f h.end h.reads h.affordable h.sized (store_of m) (held-itself m) in
      subst OfRun (sym x.reports.answer) (of-run budget x.executes)

  only-run : {r : Ran} → StepJudged limits bytes budget m r → OfRun r.answer → (f : File) × Starts limits bytes budget m f
  only-run (not-read {k = k} {p = p} e) x = absurd (not-of_run k (file-refused limits bytes k p e) x)
  only-run (over-budget e l) x = absurd (omega arith)
  only-run (ill_sized e l h) x = absurd (omega arith)
  only-run (is-run {f = f} {p = p} e l h) x = (f, record { end = p; reads = e; affordable = l; sized = h })

  pub runner : Runner limits bytes budget m
  runner = record {
    not-read = not-read_is limits bytes budget m;
    over-budget = over-budget_is limits bytes budget m;
    ill_sized = ill_sized_is limits bytes budget m;
    started = ran;
    within = λ f h. steps-within limits bytes budget m;
    only-started = only-run (judged limits bytes budget m);
    sound = λ f h s held.
        let x = executed limits bytes budget m f h.end h.reads h.affordable h.sized s held in
        (x.answer, x.count, x.last, x.executes, x.reports);
    complete = λ f h. reported limits bytes budget m f h.end h.reads h.affordable h.sized;
  }
