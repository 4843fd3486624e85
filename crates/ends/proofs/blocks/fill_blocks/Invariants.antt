-- `ends::blocks::fill_blocks` meets its contract: the masks of the blocks before one are written, and each turn writes its own.
-- Assumes nothing.
use Rattle.ends.proofs.BlockMasks.{Blocking}
use Rattle.ends.proofs.blocks.fill_blocks.Given as goal

abbrev pub invariant-loop-b : goal.invariant-loop-b
invariant-loop-b l = Blocking l.w l.initial.ends l.ends l.b
