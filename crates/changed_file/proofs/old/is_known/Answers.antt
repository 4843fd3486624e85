-- `changed_file::old::is_known` meets its contract.
-- Assumes nothing.
use mathlib.Core.Path.{sym}
use Rattle.changed_file.proofs.old.is_known.Goals as goal

pub returns-then-old : goal.returns-then-old
returns-then-old c = sym (c.requires c.if-old.true)
