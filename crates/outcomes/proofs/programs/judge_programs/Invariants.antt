-- `outcomes::programs::judge_programs` meets its contract: the verdict is that of the count so far and of the programs that are left.
-- Assumes nothing.
use mathlib.Core.Path.{◌≡◌}
use Prim.Native.Nat.{◌≤◌}
use Rattle.scan.specs.Programs.{procedure_count}
use Rattle.outcomes.specs.Programs.{CanJudgePrograms}
use Rattle.outcomes.proofs.FilePrograms.{ProgramsGoing}
use Rattle.outcomes.proofs.programs.judge_programs.Given as goal

abbrev pub invariant-loop-i : goal.invariant-loop-i
invariant-loop-i l =
    (l.procedures ≡ procedure_count l.file.words.now) ×
    (l.i ≤ l.procedures) ×
    ((h : CanJudgePrograms l.file.words.now l.file.ends.now l.file.context) → ProgramsGoing l.file.context h l.i l.count)
