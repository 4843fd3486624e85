-- `rule_laws::kept::is_kept` meets its contract.
-- Assumes nothing.
use Rattle.rule_laws.proofs.Keeping.{kept_at}
use Rattle.rule_laws.proofs.kept.is_kept.Goals as goal

pub returns : goal.returns
returns c = kept_at c.modified_at-mask.ensures c.end_at-to.ensures c.unmarked.ensures
