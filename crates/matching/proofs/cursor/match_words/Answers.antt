-- `matching::cursor::match_words` meets its contract: the words left lead on from the place at hand.
-- Assumes nothing.
use mathlib.Core.Path.{sym, ◌∙◌}
use Rattle.matching.proofs.Matching.{handed_on, matched-lost, all-lost, matched-from, words-step, words-done}
use Rattle.matching.proofs.cursor.match_words.Goals as goal

pub returns-in_err-at : goal.returns-in_err-at
returns-in_err-at c = all-lost _ _ c.in_err-at.was c.from_residual.ensures.1

pub loop-x-init : goal.loop-x-init
loop-x-init c = matched-from _ _ c.in_ok-at.was

pub returns-in_err-at-2 : goal.returns-in_err-at-2
returns-in_err-at-2 c =
    handed_on c.from_residual-in_err-at-2.ensures.1
    ∙ matched-lost _ _ _ ∙ words-step _ _ _ _ _ c.loop-x-test.true c.in_err-at-2.ensures ∙ c.loop-x.invariant

pub loop-x-preserved : goal.loop-x-preserved
loop-x-preserved c = words-step _ _ _ _ _ c.loop-x-test.true c.in_ok-at-2.ensures ∙ c.loop-x.invariant

pub returns : goal.returns
returns c = sym (words-done _ _ _ _ c.loop-x-test.false) ∙ c.loop-x.invariant
