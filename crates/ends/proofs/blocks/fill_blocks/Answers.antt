-- `ends::blocks::fill_blocks` meets its contract: the masks of the blocks before one are written, and each turn writes its own.
-- Assumes nothing.
use Rattle.ends.proofs.BlockMasks.{blocking_more, blocking_all}
use Rattle.ends.proofs.blocks.fill_blocks.Goals as goal

pub loop-b-preserved : goal.loop-b-preserved
loop-b-preserved c =
    blocking_more _ _ c.requires c.loop-b.invariant c.loop-b-test.true
    c.marks-mask.ensures c.put_mask.ensures

pub returns : goal.returns
returns c = blocking_all _ _ c.requires c.loop-b-test.false c.loop-b.invariant
