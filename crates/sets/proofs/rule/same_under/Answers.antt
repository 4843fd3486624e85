-- `sets::rule::same_under` meets its contract.
-- Assumes nothing.
use Rattle.sets.proofs.Rules.{can-under, rule-under}
use Rattle.sets.proofs.rule.same_under.Goals as goal

pub same_set-requires : goal.same_set-requires
same_set-requires c = let p = c.requires in can-under p

pub returns : goal.returns
returns c = rule-under c.same_set.ensures
