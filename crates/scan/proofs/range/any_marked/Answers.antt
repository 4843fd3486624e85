-- `scan::range::any_marked` meets its contract: no word passed is marked, so that the words left settle the test.
-- Assumes nothing.
use mathlib.Core.Path.{sym, ◌∙◌}
use Rattle.scan.proofs.Ranges.{any_none, any-hit, any-miss}
use Rattle.scan.proofs.range.any_marked.Goals as goal

pub returns-then-is_marked : goal.returns-then-is_marked
returns-then-is_marked c =
    sym (any-hit _ _ _ _ c.loop-at-test.true (sym c.is_marked.ensures ∙ c.if-is_marked.true))
    ∙ c.loop-at.invariant

pub loop-at-preserved : goal.loop-at-preserved
loop-at-preserved c =
    sym (any-miss _ _ _ _ c.loop-at-test.true (sym c.is_marked.ensures ∙ c.if-is_marked.false))
    ∙ c.loop-at.invariant

pub returns : goal.returns
returns c = sym (any_none _ _ _ _ c.loop-at-test.false) ∙ c.loop-at.invariant
