-- The order of the runner's refusals (document 01, "Runner": it reads as 19 and 1 to 7, then 10, 11, and runs the command). At
-- those refusals no step is reported and the store is as it was lent.
-- Assumes nothing.
--     not-read_is, over-budget_is, ill_sized_is, run_is    the answer, by what holds of bytes, budget and store
--     StepJudged, judged                                   one of these four gives the answer
use mathlib.Core.Path.{◌≡◌, refl}
use mathlib.Core.Bool.{Bool, true, false}
use mathlib.Core.List.{List}
use Prim.Native.Nat.{ℕ, ◌<◌, ◌≤◌}
use borrow.Author.Tests.{ltb-true, ltb-false, lt-ltb, le-ltb}
use lib.Dec.{ltb}
use Rattle.rules.specs.Context.{Limits}
use Rattle.layout.specs.Reading.{Reading, read, fault}
use Rattle.layout.specs.File.{File, file_of}
use Rattle.execution.specs.Lent.{Lent}
use Rattle.execution.specs.Run.{run}
use Rattle.execution.specs.Ran.{Ran, not_run, ran_of, well_sized, body_place, run_file, run_of}

-- 19 and 1 to 7, then 10, then 11: no step is run, and the store is as it was lent; then the command is run
module _ (limits : Limits) (bytes : List ℕ) (budget : ℕ) (m : Lent) where
  -- 19 and 1 to 7
  pub not-read_is : (k p : ℕ) → file_of limits bytes ≡ fault k p → run_of limits bytes budget m ≡ not_run k p m
  unfolding run_of
  not-read_is k p e = rw (e, run_of)

  module _ (f : File) (p : ℕ) (e : file_of limits bytes ≡ read f p) where
    -- 10
    pub over-budget_is : 1000000 < budget → run_of limits bytes budget m ≡ not_run 10 0 m
    unfolding run_of run_file
    over-budget_is l = rw (e, run_of) (rw (lt-ltb 1000000 budget l, run_file))

    -- 11
    pub ill_sized_is : budget ≤ 1000000 → well_sized m ≡ false → run_of limits bytes budget m ≡ not_run 11 0 m
    unfolding run_of run_file
    ill_sized_is l h = rw (e, run_of) (rw (le-ltb 1000000 budget l, run_file) (rw h))

    pub run_is : budget ≤ 1000000 → well_sized m ≡ true →
        run_of limits bytes budget m ≡ ran_of budget (run (body_place f) f.main.command f.main.start budget m)
    unfolding run_of run_file
    run_is l h = rw (e, run_of) (rw (le-ltb 1000000 budget l, run_file) (rw h))

-- one of the four gives the answer
pub data StepJudged (limits : Limits) (bytes : List ℕ) (budget : ℕ) (m : Lent) : Ran → Type 0 where
  not-read : {k p : ℕ} → file_of limits bytes ≡ fault k p → StepJudged limits bytes budget m (not_run k p m)
  over-budget : {f : File} {p : ℕ} → file_of limits bytes ≡ read f p → 1000000 < budget →
      StepJudged limits bytes budget m (not_run 10 0 m)
  ill_sized : {f : File} {p : ℕ} → file_of limits bytes ≡ read f p → budget ≤ 1000000 → well_sized m ≡ false →
      StepJudged limits bytes budget m (not_run 11 0 m)
  is-run : {f : File} {p : ℕ} → file_of limits bytes ≡ read f p → budget ≤ 1000000 → well_sized m ≡ true →
      StepJudged limits bytes budget m (ran_of budget (run (body_place f) f.main.command f.main.start budget m))

pub judged : (limits : Limits) (bytes : List ℕ) (budget : ℕ) (m : Lent) →
    StepJudged limits bytes budget m (run_of limits bytes budget m)
judged limits bytes budget m = by-file (file_of limits bytes) refl
  where
    by_size : (f : File) (p : ℕ) → file_of limits bytes ≡ read f p → budget ≤ 1000000 → (t : Bool) → well_sized m ≡ t →
        StepJudged limits bytes budget m (run_of limits bytes budget m)
    by_size f p e l true h = rw (run_is limits bytes budget m f p e l h) (is-run e l h)
    by_size f p e l false h = rw (ill_sized_is limits bytes budget m f p e l h) (ill_sized e l h)

    by-budget : (f : File) (p : ℕ) → file_of limits bytes ≡ read f p → (t : Bool) → ltb 1000000 budget ≡ t →
        StepJudged limits bytes budget m (run_of limits bytes budget m)
    by-budget f p e true h =
        let l = ltb-true 1000000 budget h in
        rw (over-budget_is limits bytes budget m f p e l) (over-budget e l)
    by-budget f p e false h = by_size f p e (ltb-false 1000000 budget h) (well_sized m) refl

    by-file : (x : Reading File) → file_of limits bytes ≡ x →
        StepJudged limits bytes budget m (run_of limits bytes budget m)
    by-file (read f p) e = by-budget f p e (ltb 1000000 budget) refl
    by-file (fault k p) e = rw (not-read_is limits bytes budget m k p e) (not-read e)
