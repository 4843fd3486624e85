-- `workbench::put` meets its contract: 19, and then the rest.
-- Assumes nothing.
use mathlib.Core.Path.{sym, ◌∙◌}
use Rattle.context.proofs.Limits.{settable-under}
use Rattle.replacement.proofs.Puts.{same-put, outside-put}
use Rattle.workbench.proofs.put.Goals as goal

pub returns-then-not-are_within_ranges : goal.returns-then-not-are_within_ranges
returns-then-not-are_within_ranges c =
    outside-put _ _ _ _ _ (sym c.are_within_ranges.ensures ∙ c.if-not-are_within_ranges.true) c.refused.ensures

pub put_by_size-requires : goal.put_by_size-requires
put_by_size-requires c =
    settable-under c.context_under.ensures c.are_within_ranges.ensures c.if-not-are_within_ranges.false

pub returns : goal.returns
returns c = same-put c.context_under.ensures c.put_by_size.ensures
