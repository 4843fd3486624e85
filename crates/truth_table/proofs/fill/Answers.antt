-- `truth_table::fill` meets its contract: in each lane the words below leaf i are filled, and rest has the bits that are
-- left. Assumes nothing.
use mathlib.Core.Path.{refl}
use native.Mathlib.Omega.{arith}
use Rattle.truth_table.proofs.Lanes.{four-lanes}
use Rattle.truth_table.proofs.Leaves.{filled_start, filled_block, filled_lane}
use Rattle.truth_table.proofs.fill.Goals as goal

pub loop-i-init : goal.loop-i-init
loop-i-init c =
    four-lanes _ (filled_start _ _ (omega arith)) (filled_start _ _ refl) (filled_start _ _ refl) (filled_start _ _ refl)

pub loop-i-preserved : goal.loop-i-preserved
loop-i-preserved c =
    let s = c.loop-i.invariant in
    four-lanes _
    (filled_lane 0 _ _ (omega arith) (omega arith) (s 0 (omega arith)) c.spread.ensures)
    (filled_lane 1 _ _ (omega arith) (omega arith) (s 1 (omega arith)) c.spread-in-loop-i.ensures)
    (filled_lane 2 _ _ (omega arith) (omega arith) (s 2 (omega arith)) c.spread-in-loop-i-2.ensures)
    (filled_lane 3 _ _ (omega arith) (omega arith) (s 3 (omega arith)) c.spread-in-loop-i-3.ensures)

pub returns : goal.returns
returns c = record { each = λ j h. filled_block (omega arith) (c.loop-i.invariant j h) }
