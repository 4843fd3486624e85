-- `scan::programs::fill_masks` meets its contract: the masks of the procedures before one are made, and each turn makes its own.
-- Assumes nothing.
use native.Mathlib.Omega.{arith}
use Rattle.scan.proofs.Least.{least}
use Rattle.scan.proofs.ProcedureMasks.{count_most, masking_more}
use Rattle.scan.proofs.programs.fill_masks.Goals as goal

pub start_at-from-requires : goal.start_at-from-requires
start_at-from-requires c =
    omega (arith, c.requires.room, c.loop-i.invariant.same_length, c.procedure_count-i-end.ensures, count_most c.args.w.now)

pub overflow_mul-i : goal.overflow_mul-i
overflow_mul-i c = record { fits = omega (arith, c.loop-i-test.true, c.procedure_count-i-end.ensures, count_most c.args.w.now) }

pub overflow_add-masks : goal.overflow_add-masks
overflow_add-masks c =
    record { fits = omega (arith, c.requires.room, c.loop-i-test.true, c.masks_at-masks.ensures, c.procedure_count-i-end.ensures, count_most c.args.w.now) }

pub put_mask-requires : goal.put_mask-requires
put_mask-requires c =
    omega (arith, c.requires.room, c.loop-i.invariant.same_length, c.masks_at-masks.ensures, c.procedure_count-i-end.ensures, count_most c.args.w.now)

pub loop-i-preserved : goal.loop-i-preserved
loop-i-preserved c =
    masking_more _ _ c.requires c.loop-i.invariant (omega (arith, c.procedure_count-i-end.ensures)) c.start_at-from.ensures
    (λ h. omega (arith, least, c.end_or_zero.ensures))
    c.marks-mask.ensures (rw c.masks_at-masks.ensures at c.put_mask.ensures)
