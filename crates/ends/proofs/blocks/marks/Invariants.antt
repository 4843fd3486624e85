-- `ends::blocks::marks` meets its contract: what the words left add to the mask at hand is what all of them make.
-- Assumes nothing.
use mathlib.Core.Path.{◌≡◌}
use Prim.Native.Nat.{◌-◌}
use Rattle.ends.specs.Blocks.{called_mask, marks_in}
use Rattle.ends.proofs.blocks.marks.Given as goal

abbrev pub invariant-loop-at : goal.invariant-loop-at
invariant-loop-at l = marks_in (called_mask l.w l.ends) l.w (l.to - l.at) l.at l.mask ≡ marks_in (called_mask l.w l.ends) l.w (l.to - l.from) l.from 0
