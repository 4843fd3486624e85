-- Demand 2 of the runner: it gives the end, store and step count of the language's definition, or stops where document 01, with the
-- order of request [1] of document 02, says and nowhere else.
-- Trusted. Assumes nothing.
--     Starts    the file reads, and the budget and the lent store are such that its program is run
--     OfRun     the answers of a run: it ended, or 12 to 15 is said
--     Runner    the claim
use Rattle.std.specs.Prelude.{◌≡◌, true, false, List, ℕ, ◌<◌, ◌≤◌}
use Rattle.language.specs.Store.{Store}
use Rattle.rules.specs.Context.{Limits}
use Rattle.layout.specs.Reading.{read, fault}
use Rattle.layout.specs.File.{File, file_of}
use Rattle.execution.specs.Lent.{Lent, HeldBy}
use Rattle.execution.specs.Ran.{Answer, done, refused, well_sized, not_run, run_of}
use Rattle.execution.specs.Refusal.{refusal}
use Rattle.execution.specs.Executes.{Executes, Reports}

pub record Starts (limits : Limits) (bytes : List ℕ) (budget : ℕ) (m : Lent) (f : File) : Type 0 where
  pub end : ℕ
  pub reads : file_of limits bytes ≡ read f end
  pub affordable : budget ≤ 1000000
  pub sized : well_sized m ≡ true

abbrev pub OfRun : Answer → Type 0
OfRun done = Unit {0}
OfRun (refused k p) = (12 ≤ k) × (k ≤ 15)

pub record Runner (limits : Limits) (bytes : List ℕ) (budget : ℕ) (m : Lent) : Type 0 where
  -- 19, 1 to 7 and 16, then 10, then 11: no step, and the store as it was lent
  pub not-read : (k p : ℕ) → file_of limits bytes ≡ fault k p → run_of limits bytes budget m ≡ not_run k p m
  pub over-budget : (f : File) (p : ℕ) → file_of limits bytes ≡ read f p → 1000000 < budget →
      run_of limits bytes budget m ≡ not_run 10 0 m
  pub ill_sized : (f : File) (p : ℕ) → file_of limits bytes ≡ read f p → budget ≤ 1000000 → well_sized m ≡ false →
      run_of limits bytes budget m ≡ not_run 11 0 m
  -- otherwise its program is run: it ends or is refused by 12 to 15, after at most the budget's steps; and only then
  pub started : (f : File) → Starts limits bytes budget m f → OfRun (run_of limits bytes budget m).answer
  pub within : (f : File) → Starts limits bytes budget m f → (run_of limits bytes budget m).steps ≤ budget
  pub only-started : OfRun (run_of limits bytes budget m).answer → (f : File) × Starts limits bytes budget m f
  -- the definition, from every store that holds the lent values, comes to what the runner reports ..
  pub sound : (f : File) → Starts limits bytes budget m f → (s : Store) → HeldBy m s →
      (a : Answer) × (n : ℕ) × (t : Store)
      × Executes (refusal budget) f s a n t × Reports (run_of limits bytes budget m) a n t
  -- .. and to nothing else
  pub complete : (f : File) → Starts limits bytes budget m f → (s : Store) → HeldBy m s → (a : Answer) (n : ℕ)
      (t : Store) → Executes (refusal budget) f s a n t → Reports (run_of limits bytes budget m) a n t
