-- `sets::set::same_set` meets its contract: the halves are those of the trees.
-- Assumes nothing.
use Rattle.sets.proofs.Rules.{can-same, set_does}
use Rattle.sets.proofs.set.same_set.Goals as goal

pub same_members-requires : goal.same_members-requires
same_members-requires c = let p = c.requires in can-same p

pub returns : goal.returns
returns c = let p = c.requires in set_does p.ends_of c.same_members.ensures
