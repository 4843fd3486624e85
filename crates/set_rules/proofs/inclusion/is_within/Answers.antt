-- `set_rules::inclusion::is_within` meets its contract: the numbers that are compared are those of the two sets.
-- Assumes nothing.
use Rattle.set_rules.proofs.Inclusions.{can-see, within-at}
use Rattle.set_rules.proofs.inclusion.is_within.Goals as goal

pub seen_in-requires : goal.seen_in-requires
seen_in-requires c = can-see c.requires c.count-j.ensures c.count-k.ensures

pub returns : goal.returns
returns c = within-at c.requires c.count-j.ensures c.count-k.ensures c.seen_in.ensures
