-- `truth_table::every_within` meets its contract: every assignment of the blocks before b makes the formula true.
-- Assumes nothing.
use Rattle.truth_table.proofs.Blocks.{UpTo}
use Rattle.truth_table.proofs.every_within.Given as goal

abbrev pub invariant-loop-b : goal.invariant-loop-b
invariant-loop-b g l = UpTo l.prog l.len l.b
