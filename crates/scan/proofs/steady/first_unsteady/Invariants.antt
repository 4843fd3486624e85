-- `scan::steady::first_unsteady` meets its contract: no place that was passed has such a `for`.
-- The measure is the words left. Assumes nothing.
use Prim.Native.Nat.{◌-◌, ◌≤◌}
use lib.ListN.{length}
use Rattle.scan.proofs.Tests.{SteadyBefore}
use Rattle.scan.proofs.steady.first_unsteady.Given as goal

abbrev pub invariant-loop-at : goal.invariant-loop-at
invariant-loop-at l = (l.at ≤ length l.w) × SteadyBefore l.w l.ends l.at

abbrev pub decreases-loop-at : goal.decreases-loop-at
decreases-loop-at l = length l.w - l.at
