-- The runner's answer on bytes (document 01, "Runner" and "Judging order" 1 to 7 and 10 to 15; document 02, requests [3] and [6]).
-- Trusted. Assumes nothing.
--     Answer, Ran       ended or refused; with the steps finished and the store afterwards
--     not_run, ran_of     of a refusal before the run; of a run on a budget
--     well_sized         32 scalars and 2,048 array values
--     body_place         the place where the body of a procedure stands
--     run_file, run_of    of a file that was read; of bytes, a budget and a lent store
use Rattle.std.specs.Prelude.{Bool, true, false, ◌&&◌, List, ℕ, ◌-◌, eqb, ltb, length}
use Rattle.std.proofs.Math.Option.{Option, none, some}
use Rattle.rules.specs.Context.{Limits, item_at}
use Rattle.layout.specs.Reading.{read, fault}
use Rattle.layout.specs.Program.{Program}
use Rattle.layout.specs.File.{File, file_of}
use Rattle.execution.specs.Lent.{Lent}
use Rattle.execution.specs.Run.{End, ended, stopped, run}

pub data Answer : Type 0 where
  done : Answer
  refused : ℕ → ℕ → Answer

pub record Ran : Type 0 where
  pub answer : Answer
  pub steps : ℕ
  pub store : Lent

-- refusals 19, 1 to 7, 16, 10 and 11
abbrev pub not_run : ℕ → ℕ → Lent → Ran
not_run k p m = record { answer = refused k p; steps = 0; store = m }

abbrev pub ran_of : ℕ → End → Ran
ran_of budget (ended n m) = record { answer = done; steps = budget - n; store = m }
ran_of budget (stopped k p n m) = record { answer = refused k p; steps = budget - n; store = m }

abbrev pub well_sized : Lent → Bool
well_sized m = eqb (length m.scalars) 32 && eqb (length m.values) 2048

abbrev pub start_of : Option Program → ℕ
start_of none = 0
start_of (some g) = g.start

-- of procedure n; a number that no procedure has is refused (16)
abbrev pub body_place : File → ℕ → ℕ
body_place f n = start_of (item_at f.procedures n)

-- refusal 10, then 11, then the run
unfoldable pub run_file : File → ℕ → Lent → Ran
run_file f budget m = elim (ltb 1000000 budget) [
  | true ↦ not_run 10 0 m
  | false ↦ elim (well_sized m) [ true ↦ ran_of budget (run (body_place f) f.main.command f.main.start budget m) | false ↦ not_run 11 0 m ]
]

unfoldable pub run_of : Limits → List ℕ → ℕ → Lent → Ran
run_of limits bytes budget m = elim (file_of limits bytes) [
  | read f p ↦ run_file f budget m
  | fault k p ↦ not_run k p m
]
