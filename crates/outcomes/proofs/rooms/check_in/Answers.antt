-- `outcomes::rooms::check_in` meets its contract: refusals 1 to 7, then the judge over the words that were read.
-- Assumes nothing.
use mathlib.Core.Path.{refl}
use Rattle.file.proofs.Files.{file-words}
use Rattle.outcomes.proofs.Outcomes.{found-judge, found-outcome, refused-done}
use Rattle.outcomes.proofs.rooms.check_in.Goals as goal

pub slice_bounds-judge_stored-end : goal.slice_bounds-judge_stored-end
slice_bounds-judge_stored-end c = (file-words c.in_ok-places.ensures refl).inside

pub judge_stored-requires : goal.judge_stored-requires
judge_stored-requires c = found-judge c.in_ok-places.ensures c.requires.1 refl

pub returns-in_err-places : goal.returns-in_err-places
returns-in_err-places c = refused-done c.in_err-places.ensures _ refl c.from_residual.ensures.1

pub returns : goal.returns
returns c = found-outcome c.in_ok-places.ensures refl c.judge_stored.ensures
