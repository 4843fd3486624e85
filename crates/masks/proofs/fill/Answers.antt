-- `masks::fill` meets its contract: the masks of the words from a place on are stored, and each turn stores the one before.
-- Assumes nothing.
use native.Mathlib.Omega.{arith}
use borrow.Author.Rules.{rules}
use Rattle.masks.proofs.Joined.{with_first}
use Rattle.masks.proofs.Filling.{filling_more}
use Rattle.masks.proofs.fill.Goals as goal

pub loop-i-preserved : goal.loop-i-preserved
loop-i-preserved c =
    let pre = c.requires in
    filling_more _ _ _ pre c.loop-i-test.true c.loop-i.invariant
    (with_first _ _ pre.listed (omega (arith, c.loop-i-test.true, c.loop-i.invariant.inside)) c.parts_mask-mask.ensures
    (rw c.masks_at-procedures.ensures at c.mark.ensures))
    (search rules)
