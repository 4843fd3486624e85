-- `runner::run` meets its contract: 19, and then the rest.
-- Assumes nothing.
use mathlib.Core.Path.{sym, ◌∙◌}
use Rattle.runner.proofs.Files.{run-of, outside-run}
use Rattle.runner.proofs.run.Goals as goal

pub returns-then-not-are_within_ranges : goal.returns-then-not-are_within_ranges
returns-then-not-are_within_ranges c =
    outside-run _ (sym c.are_within_ranges.ensures ∙ c.if-not-are_within_ranges.true) _ _ _ c.refused.ensures

pub returns : goal.returns
returns c =
    run-of _ c.context_under.ensures (sym c.are_within_ranges.ensures ∙ c.if-not-are_within_ranges.false)
    c.run_bytes.ensures
