-- `outcomes::rooms::outcome` meets its contract: the room that is chosen has place for the words of a file whose byte count is good.
-- Assumes nothing.
use Rattle.words.proofs.Lengths.{good_length}
use Rattle.outcomes.proofs.rooms.outcome.Goals as goal

pub check_sized-requires-in_default-clause-fits : goal.check_sized-requires-in_default-clause-fits
check_sized-requires-in_default-clause-fits c = record { fits = λ g. good_length c.args.file.now g; within = c.requires }
