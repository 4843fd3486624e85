-- `scan::programs::fill_masks` meets its contract: the masks of the procedures before one are made, and each turn makes its own.
-- Assumes nothing.
use Rattle.scan.proofs.ProcedureMasks.{Masking}
use Rattle.scan.proofs.programs.fill_masks.Given as goal

abbrev pub invariant-loop-i : goal.invariant-loop-i
invariant-loop-i l = Masking l.w l.initial.table l.table l.i
