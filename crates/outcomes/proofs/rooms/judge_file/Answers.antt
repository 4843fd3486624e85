-- `outcomes::rooms::judge_file` meets its contract: the verdict of the programs, with the places that were found.
-- Assumes nothing.
use mathlib.Core.Path.{refl}
use Rattle.reader.proofs.Walks.{exit}
use Rattle.outcomes.proofs.Outcomes.{judged-outcome}
use Rattle.outcomes.proofs.rooms.judge_file.Goals as goal

pub invariant_of-file : goal.invariant_of-file
invariant_of-file c = record { masks_of = c.requires.1 }

pub judge_programs-requires : goal.judge_programs-requires
judge_programs-requires c = c.requires.0.programs

pub returns-in_err-judged : goal.returns-in_err-judged
returns-in_err-judged c =
    exit c.from_residual.ensures.1 (judged-outcome _ c.requires.0 _ _ c.in_err-judged.ensures refl)

pub returns : goal.returns
returns c = judged-outcome _ c.requires.0 _ _ c.in_ok-judged.ensures refl
