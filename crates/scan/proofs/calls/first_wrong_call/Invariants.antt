-- `scan::calls::first_wrong_call` meets its contract: no call that was passed is wrong.
-- The measure is the words left. Assumes nothing.
use mathlib.Core.Path.{◌≡◌}
use Prim.Native.Nat.{◌-◌, ◌≤◌}
use lib.ListN.{length}
use Rattle.layout.specs.Reading.{first_place}
use Rattle.scan.specs.Calls.{wrong_at}
use Rattle.scan.proofs.calls.first_wrong_call.Given as goal

abbrev pub invariant-loop-at : goal.invariant-loop-at
invariant-loop-at l = (l.at ≤ length l.w) × (first_place (wrong_at l.w l.table) (length l.w - l.at) l.at ≡ first_place (wrong_at l.w l.table) (length l.w) 0)

abbrev pub decreases-loop-at : goal.decreases-loop-at
decreases-loop-at l = length l.w - l.at
