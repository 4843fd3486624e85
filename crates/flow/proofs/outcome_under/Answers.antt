-- `flow::outcome_under` meets its contract: 19, and then the rest.
-- Assumes nothing.
use mathlib.Core.Path.{sym, ◌∙◌}
use Rattle.context.proofs.Limits.{settable-under}
use Rattle.flow.proofs.Answers.{settings_within, outside-outcome, within-outcome}
use Rattle.flow.proofs.outcome_under.Goals as goal

pub returns-then-not-are_within_ranges : goal.returns-then-not-are_within_ranges
returns-then-not-are_within_ranges c =
    outside-outcome _ _ (sym c.are_within_ranges.ensures ∙ c.if-not-are_within_ranges.true) c.outside_ranges.ensures

pub outcome-requires : goal.outcome-requires
outcome-requires c =
    settings_within _
    (settable-under c.context_under.ensures c.are_within_ranges.ensures c.if-not-are_within_ranges.false)

pub returns : goal.returns
returns c =
    within-outcome _ c.context_under.ensures
    (sym c.are_within_ranges.ensures ∙ c.if-not-are_within_ranges.false) c.outcome.ensures
