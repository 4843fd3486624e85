-- `flow::check_with_masks` meets its contract: 19, 17, or the answer for the outcome.
-- Assumes nothing.
use mathlib.Core.Path.{sym, ◌∙◌}
use Rattle.context.proofs.Limits.{settable-under}
use Rattle.flow.proofs.Answers.{settings_within, exit-err}
use Rattle.flow.proofs.MasksAfter.{outside-checked, few-checked, masks-checked, masks-accepted}
use Rattle.flow.proofs.check_with_masks.Goals as goal

pub returns-then-not-are_within_ranges : goal.returns-then-not-are_within_ranges
returns-then-not-are_within_ranges c =
    outside-checked _ _ _ (sym c.are_within_ranges.ensures ∙ c.if-not-are_within_ranges.true) c.outside_ranges.ensures

pub returns-then-few_numbers : goal.returns-then-few_numbers
returns-then-few_numbers c =
    few-checked _ _ _ (sym c.are_within_ranges.ensures ∙ c.if-not-are_within_ranges.false)
    (sym c.few_numbers.ensures ∙ c.if-few_numbers.true)

pub outcome-requires : goal.outcome-requires
outcome-requires c =
    settings_within _
    (settable-under c.context_under.ensures c.are_within_ranges.ensures c.if-not-are_within_ranges.false)

pub returns-in_err-accepted : goal.returns-in_err-accepted
returns-in_err-accepted c =
    masks-checked _ _ _ (sym c.are_within_ranges.ensures ∙ c.if-not-are_within_ranges.false)
    (sym c.few_numbers.ensures ∙ c.if-few_numbers.false) c.context_under.ensures c.in_err-accepted.ensures
    (exit-err c.from_residual.ensures.1)

pub returns : goal.returns
returns c =
    masks-accepted _ _ _ (sym c.are_within_ranges.ensures ∙ c.if-not-are_within_ranges.false)
    (sym c.few_numbers.ensures ∙ c.if-few_numbers.false) c.context_under.ensures c.in_ok-accepted.ensures
