-- `scan::place::closed_at` meets its contract: what stands at the place ends where the list of ends has it.
-- Assumes nothing.
use Rattle.scan.proofs.Places.{closed_place}
use Rattle.scan.proofs.place.closed_at.Goals as goal

pub returns : goal.returns
returns c = closed_place _ _ _ c.requires _ c.closed.ensures
