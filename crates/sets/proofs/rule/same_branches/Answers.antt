-- `sets::rule::same_branches` meets its contract.
-- Assumes nothing.
use Rattle.sets.proofs.Rules.{can-branches, rule-branches}
use Rattle.sets.proofs.rule.same_branches.Goals as goal

pub same_set-requires : goal.same_set-requires
same_set-requires c = let p = c.requires in can-branches p

pub returns : goal.returns
returns c = rule-branches c.same_set.ensures
