-- `masks::parts_mask` meets its contract: the masks of the parts before a place are joined, and each turn joins the one there.
-- Assumes nothing.
use mathlib.Core.Path.{◌≡◌, ◌∙◌}
use Prim.Native.Nat.{◌-◌}
use native.Mathlib.Omega.{arith}
use Rattle.masks.proofs.Joined.{joining_none, joining_more, joining_stop, joining_all}
use Rattle.masks.proofs.parts_mask.Goals as goal

pub loop-init : goal.loop-init
loop-init c =
    let all : c.parts-end.result - 0 ≡ c.parts-end.result = omega arith in
    joining_none _ _ c.requires (all ∙ c.parts-end.ensures)

pub returns-then-w-next : goal.returns-then-w-next
returns-then-w-next c = joining_stop _ _ c.if-w-next.true c.loop.invariant

pub loop-preserved : goal.loop-preserved
loop-preserved c = joining_more _ _ c.requires c.loop-test.true c.if-w-next.false c.loop.invariant c.end_at-next.ensures

pub returns : goal.returns
returns c = joining_all _ _ (omega arith) c.loop.invariant
