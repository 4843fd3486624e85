-- `compare::start::start_from` meets its contract: the boolean there has the plain form, and a turn goes past a side that is true.
-- The measure is the words left.
-- Assumes nothing.
use Prim.Native.Nat.{◌-◌}
use lib.ListN.{length}
use Rattle.compare.proofs.Starts.{Descends}
use Rattle.compare.proofs.start.start_from.Given as goal

abbrev pub invariant-loop-at : goal.invariant-loop-at
invariant-loop-at l = Descends l.w l.ends l.f l.other l.at

abbrev pub decreases-loop-at : goal.decreases-loop-at
decreases-loop-at l = length l.w - l.at
