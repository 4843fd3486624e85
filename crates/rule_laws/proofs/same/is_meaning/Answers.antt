-- `rule_laws::same::is_meaning` meets its contract.
-- Assumes nothing.
use Rattle.rule_laws.proofs.Meaning.{meaning-at}
use Rattle.rule_laws.proofs.same.is_meaning.Goals as goal

pub returns : goal.returns
returns c = meaning-at c.requires.ends_of c.match_meaning.ensures c.came_to_end.ensures
