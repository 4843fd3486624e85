-- `sets::rule::same_written` meets its contract.
-- Assumes nothing.
use Rattle.sets.proofs.Rules.{can-written, rule-written}
use Rattle.sets.proofs.rule.same_written.Goals as goal

pub same_set-requires : goal.same_set-requires
same_set-requires c = let p = c.requires in can-written p

pub returns : goal.returns
returns c = rule-written c.same_set.ensures
