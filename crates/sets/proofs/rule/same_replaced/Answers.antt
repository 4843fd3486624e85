-- `sets::rule::same_replaced` meets its contract.
-- Assumes nothing.
use Rattle.sets.proofs.Rules.{can-replaced, rule-replaced}
use Rattle.sets.proofs.rule.same_replaced.Goals as goal

pub same_set-requires : goal.same_set-requires
same_set-requires c = let p = c.requires in can-replaced p

pub returns : goal.returns
returns c = rule-replaced c.same_set.ensures
