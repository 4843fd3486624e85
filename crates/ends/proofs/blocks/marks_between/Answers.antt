-- `ends::blocks::marks_between` meets its contract: the words before the blocks, the blocks, the words after them.
-- Assumes nothing.
use native.Mathlib.Omega.{arith}
use Rattle.ends.proofs.Marks.{marks-range}
use Rattle.ends.proofs.BlockMasks.{between}
use Rattle.ends.proofs.blocks.marks_between.Goals as goal

pub returns-then-b-from : goal.returns-then-b-from
returns-then-b-from c = marks-range _ c.marks.ensures

pub returns : goal.returns
returns c =
    let more = c.if-b-from.false in
    between (omega arith) (omega (arith, more)) (omega arith) (marks-range _ c.marks-first.ensures)
    c.block_marks-middle.ensures (marks-range _ c.marks-last.ensures)
