-- `matching::cursor::match_word` meets its contract: the word stands there or not, and nothing does once one was missing.
-- Assumes nothing.
use mathlib.Core.Path.{sym, ap, ◌∙◌}
use Rattle.matching.specs.Matching.{matched_word}
use Rattle.matching.proofs.Matching.{word_out, word-here, word-other, word-lost}
use Rattle.matching.proofs.cursor.match_word.Goals as goal

pub returns-in_err-at : goal.returns-in_err-at
returns-in_err-at c = word-lost _ _ c.in_err-at.was c.from_residual.ensures.1

pub returns-then-w-at : goal.returns-then-w-at
returns-then-w-at c = word_out _ _ _ c.if-w-at.true ∙ ap (λ m. matched_word c.args.w.now m c.args.x) (sym c.in_ok-at.was)

pub returns-then-w-at-2 : goal.returns-then-w-at-2
returns-then-w-at-2 c =
    word-here _ _ _ c.if-w-at.false c.if-w-at-2.true ∙ ap (λ m. matched_word c.args.w.now m c.args.x) (sym c.in_ok-at.was)

pub returns-else-w-at-2 : goal.returns-else-w-at-2
returns-else-w-at-2 c =
    word-other _ _ _ c.if-w-at.false c.if-w-at-2.false ∙ ap (λ m. matched_word c.args.w.now m c.args.x) (sym c.in_ok-at.was)
