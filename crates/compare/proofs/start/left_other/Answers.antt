-- `compare::start::left_other` meets its contract: of an and that stays it is known.
-- Assumes nothing.
use Rattle.compare.proofs.Formed.{can-true}
use Rattle.compare.proofs.start.left_other.Goals as goal

pub other_of-requires : goal.other_of-requires
other_of-requires c = let p = c.requires in can-true p.ends_of p.operand
