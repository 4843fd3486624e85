-- `scan::for_mask::find_fors` meets its contract: the mask has q and m of each `for` that was passed, and `past` is past the last of them.
-- The measure is the words left. Assumes nothing.
use Prim.Native.Nat.{◌-◌}
use lib.ListN.{length}
use Rattle.scan.proofs.ForMasks.{ForsBefore}
use Rattle.scan.proofs.for_mask.find_fors.Given as goal

abbrev pub invariant-loop-at : goal.invariant-loop-at
invariant-loop-at l = ForsBefore l.w l.at l.mask l.past

abbrev pub decreases-loop-at : goal.decreases-loop-at
decreases-loop-at l = length l.w - l.at
