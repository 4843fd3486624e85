-- `scan::pass::kind_in_eight` meets its contract: if none of the words before a place has the kind, a scan passes them.
-- Assumes nothing.
use mathlib.Core.Path.{◌≡◌}
use mathlib.Core.Bool.{false}
use Rattle.scan.specs.Pass.{Passed}
use Rattle.scan.proofs.pass.kind_in_eight.Given as goal

abbrev pub invariant-loop-i : goal.invariant-loop-i
invariant-loop-i l = l.found ≡ false → Passed l.w l.kind l.at l.i
