-- `ends::blocks::marks` meets its contract: what the words left add to the mask at hand is what all of them make.
-- Assumes nothing.
use mathlib.Core.Path.{sym, ap, ◌∙◌}
use Rattle.ends.specs.Blocks.{marks_in}
use Rattle.ends.proofs.Marks.{marks-none, marks-next}
use Rattle.ends.proofs.blocks.marks.Goals as goal

pub loop-at-preserved : goal.loop-at-preserved
loop-at-preserved c =
    ap (marks_in _ _ _ _) (rw c.masks_at-procedures.ensures at c.mark-mask.ensures) ∙ sym (marks-next _ _ _ _ _ c.loop-at-test.true) ∙ c.loop-at.invariant

pub returns : goal.returns
returns c = sym (marks-none _ _ _ _ _ c.loop-at-test.false) ∙ c.loop-at.invariant
