-- `flow::precondition` meets its contract: the part's bytes are what the layout says.
-- Assumes nothing.
use mathlib.Core.Path.{◌∙◌}
use Rattle.flow.proofs.Parts.{bytes-precondition}
use Rattle.flow.proofs.precondition.Goals as goal

pub returns : goal.returns
returns c = c.part_bytes.ensures ∙ bytes-precondition _ _
