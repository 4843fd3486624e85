-- `ends::blocks::block_marks` meets its contract: the mask at hand is that of the blocks passed.
-- Assumes nothing.
use native.Mathlib.Omega.{arith}
use Rattle.ends.proofs.BlockMasks.{joined-none, joined-more}
use Rattle.ends.proofs.blocks.block_marks.Goals as goal

pub loop-i-init : goal.loop-i-init
loop-i-init c = joined-none c.requires.0 _

pub loop-i-preserved : goal.loop-i-preserved
loop-i-preserved c =
    let less = c.loop-i-test.true in
    joined-more c.requires.0 c.loop-i.auto.i (omega (arith, c.requires.2)) c.loop-i.invariant c.mask_at-mask.ensures
