-- `ends::blocks::block_marks` meets its contract: the mask at hand is that of the blocks passed.
-- Assumes nothing.
use Prim.Native.Nat.{◌*◌, ◌-◌}
use Rattle.ends.specs.Blocks.{called_mask, Marks}
use Rattle.ends.proofs.blocks.block_marks.Given as goal

abbrev pub invariant-loop-i : goal.invariant-loop-i
invariant-loop-i l = Marks (called_mask l.w l.ends) l.w (32 * (l.i - l.a)) (32 * l.a) l.mask
