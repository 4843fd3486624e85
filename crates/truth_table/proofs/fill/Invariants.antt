-- `truth_table::fill` meets its contract: in each lane the words below leaf i are filled, and rest has the bits that are
-- left. Assumes nothing.
use Prim.Native.Nat.{ℕ, ◌+◌, ◌<◌}
use lib.ListN.{get_or}
use Rattle.truth_table.specs.Formula.{lane}
use Rattle.truth_table.proofs.Leaves.{LeavesFilled}
use Rattle.truth_table.proofs.fill.Given as goal

abbrev pub invariant-loop-i : goal.invariant-loop-i
invariant-loop-i l = (j : ℕ) → j < 4 → LeavesFilled (l.b + j) (lane j l.t) (get_or l.rest j 0) l.i
