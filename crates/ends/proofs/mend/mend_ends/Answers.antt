-- `ends::mend::mend_ends` meets its contract: the ends from a place on are written, and each turn writes the one before.
-- Assumes nothing.
use mathlib.Core.Path.{◌∙◌}
use native.Mathlib.Omega.{arith}
use Rattle.ends.proofs.Mending.{mending_more, mending_end}
use Rattle.ends.proofs.mend.mend_ends.Goals as goal

pub overflow_cast-ends : goal.overflow_cast-ends
overflow_cast-ends c =
    let e = mending_end _ _ _ _ c.requires _ _ _ c.loop-i-test.true c.loop-i.invariant c.parts.ensures in
    record { fits = omega (arith, c.requires.small, c.past-end.ensures, e.1) }

pub loop-i-preserved : goal.loop-i-preserved
loop-i-preserved c =
    let e = mending_end _ _ _ _ c.requires _ _ _ c.loop-i-test.true c.loop-i.invariant c.parts.ensures in
    mending_more _ _ _ _ c.requires _ _ _ c.loop-i-test.true c.loop-i.invariant (c.past-end.ensures ∙ e.0)
