-- `sets::rule::same_union` meets its contract.
-- Assumes nothing.
use Rattle.sets.proofs.Rules.{can-union, rule-union}
use Rattle.sets.proofs.rule.same_union.Goals as goal

pub same_set-requires : goal.same_set-requires
same_set-requires c = let p = c.requires in can-union p

pub returns : goal.returns
returns c = rule-union c.same_set.ensures
