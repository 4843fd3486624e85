-- `splice::extent::extent_at` meets its contract: in the loop, so many parts are ahead. The levels left fall.
-- Assumes nothing.
use native.Mathlib.Omega.{arith}
use Rattle.splice.proofs.Extents.{extent-zero, extent-past, extent-one, ahead-start, ahead-next, ahead-stop, ahead-done}
use Rattle.splice.proofs.extent.+extent_at.Goals as goal

pub returns-then-most-eq0 : goal.returns-then-most-eq0
returns-then-most-eq0 t c = extent-zero c.if-most-eq0.true

pub returns-then-w-at : goal.returns-then-w-at
returns-then-w-at t c = extent-past c.if-w-at.true

pub returns-then-most-eq1 : goal.returns-then-most-eq1
returns-then-most-eq1 t c = extent-one c.if-most-eq1.true

pub loop-init : goal.loop-init
loop-init t c = ahead-start _ _ _ c.if-most-eq0.false (omega (arith, c.parts-end.ensures))

pub returns-then-w-end : goal.returns-then-w-end
returns-then-w-end t c = ahead-stop _ _ _ c.loop.invariant (omega arith) c.if-w-end.true

pub loop-preserved : goal.loop-preserved
loop-preserved t c =
    rw c.max-levels.ensures (ahead-next _ _ _ c.loop.invariant (omega arith) c.extent_at-part.ensures)

pub returns : goal.returns
returns t c = ahead-done _ _ _ c.loop.invariant (omega arith)
