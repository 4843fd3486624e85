-- `scan::for_mask::find_fors` meets its contract: the mask has q and m of each `for` that was passed, and `past` is past the last of them.
-- The measure is the words left. Assumes nothing.
use Rattle.scan.proofs.ForMasks.{fors_past, fors_more}
use Rattle.scan.proofs.for_mask.find_fors.Goals as goal

pub loop-at-preserved : goal.loop-at-preserved
loop-at-preserved c =
    fors_past _ c.pass-at.ensures
    (fors_more _ c.with_bit-mask.ensures c.with_bit-mask-in-loop-at.ensures c.loop-at.invariant)
