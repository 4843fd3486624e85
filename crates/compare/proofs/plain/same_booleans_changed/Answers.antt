-- `compare::plain::same_booleans_changed` meets its contract: by their first words that are neither and nor true.
-- Assumes nothing.
use Rattle.compare.proofs.Formed.{can-true}
use Rattle.compare.proofs.plain.same_booleans_changed.Goals as goal

pub other_of-p-requires : goal.other_of-p-requires
other_of-p-requires c = let p = c.requires in can-true p.ends_of p.first

pub other_of-requires : goal.other_of-requires
other_of-requires c = let p = c.requires in can-true p.ends_of p.second
