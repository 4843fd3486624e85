-- `rule_laws::same::match_meaning` meets its contract: the words before the body, the body's, and those after it.
-- Assumes nothing.
use Rattle.rule_laws.proofs.Meaning.{parts-matched}
use Rattle.rule_laws.proofs.same.match_meaning.Goals as goal

pub returns : goal.returns
returns c = parts-matched _ _ _ _ c.match_start-body.ensures c.match_part-next.ensures c.match_next.ensures
