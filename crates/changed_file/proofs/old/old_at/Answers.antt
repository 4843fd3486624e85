-- `changed_file::old::old_at` meets its contract.
-- Assumes nothing.
use mathlib.Core.Path.{refl}
use Rattle.changed_file.proofs.old.old_at.Goals as goal

pub returns : goal.returns
returns c = record { first = refl; levels-for = c.levels_for-levels.ensures; known = refl; same-fors = refl }
