-- `implication::implies` meets its contract: the sides are within 8,192 words. Assumes nothing.
use Rattle.implication.proofs.Answers.{left-small, right-small}
use Rattle.implication.proofs.implies.Goals as goal

pub room-requires : goal.room-requires
room-requires c = left-small c.requires

pub room-requires-2 : goal.room-requires-2
room-requires-2 c = right-small c.requires
