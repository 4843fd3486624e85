-- `truth_table::every_within` meets its contract: every assignment of the blocks before b makes the formula true.
-- Assumes nothing.
use native.Mathlib.Omega.{arith}
use Rattle.truth_table.proofs.Blocks.{upto-none, upto-end, four_more, four_stuck}
use Rattle.truth_table.proofs.every_within.Goals as goal

pub loop-b-init : goal.loop-b-init
loop-b-init g c = upto-none

pub returns-then-not-full : goal.returns-then-not-full
returns-then-not-full g c = four_stuck c.fill.ensures c.block.ensures c.full.ensures c.if-not-full.true

pub loop-b-preserved : goal.loop-b-preserved
loop-b-preserved g c =
    four_more c.fill.ensures c.block.ensures c.full.ensures c.if-not-full.false c.loop-b.invariant

pub returns : goal.returns
returns g c = upto-end c.loop-b-test.false c.loop-b.invariant

pub returns-else-not-full : goal.returns-else-not-full
returns-else-not-full g c =
    upto-end (omega arith)
    (four_more c.fill.ensures c.block.ensures c.full.ensures c.if-not-full.false c.loop-b.invariant)
