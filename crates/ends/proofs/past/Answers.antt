-- `ends::past` meets its contract: what is left to follow from the place at hand gives what is asked from the first.
-- Assumes nothing.
use mathlib.Core.Path.{sym, ◌∙◌}
use native.Mathlib.Omega.{arith}
use Rattle.ends.proofs.Sizes.{follow-none, follow-stop, follow-on}
use Rattle.ends.proofs.past.Goals as goal

pub returns-then-words-at : goal.returns-then-words-at
returns-then-words-at c = sym (follow-stop _ _ _ _ c.if-words-at.true) ∙ c.loop.invariant

pub loop-preserved : goal.loop-preserved
loop-preserved c = sym (follow-on _ _ _ _ _ c.loop-test.true c.if-words-at.false) ∙ c.loop.invariant

pub returns : goal.returns
returns c = sym (follow-none _ _ _ _ (omega arith)) ∙ c.loop.invariant
