-- `matching::cursor::match_head` meets its contract: the test picks a case of `put_for`.
-- Assumes nothing.
use mathlib.Core.Path.{◌∙◌}
use Rattle.matching.proofs.Matching.{head-put, head-word}
use Rattle.matching.proofs.cursor.match_head.Goals as goal

pub returns-then-x-put : goal.returns-then-x-put
returns-then-x-put c = c.match_range.ensures ∙ head-put _ _ _ _ c.if-x-put.true

pub returns-else-x-put : goal.returns-else-x-put
returns-else-x-put c = c.match_word.ensures ∙ head-word _ _ _ _ c.if-x-put.false
