-- `scan::range::any_marked` meets its contract: no word passed is marked, so that the words left settle the test.
-- Assumes nothing.
use mathlib.Core.Path.{◌≡◌}
use Prim.Native.Nat.{◌-◌}
use Rattle.ends.specs.Blocks.{any_in}
use Rattle.scan.specs.Scan.{marked}
use Rattle.scan.proofs.range.any_marked.Given as goal

abbrev pub invariant-loop-at : goal.invariant-loop-at
invariant-loop-at l = any_in (marked l.mask) l.w (l.to - l.at) l.at ≡ any_in (marked l.mask) l.w (l.to - l.from) l.from
