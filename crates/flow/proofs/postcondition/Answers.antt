-- `flow::postcondition` meets its contract: the part's bytes are what the layout says.
-- Assumes nothing.
use mathlib.Core.Path.{◌∙◌}
use Rattle.flow.proofs.Parts.{bytes-postcondition}
use Rattle.flow.proofs.postcondition.Goals as goal

pub returns : goal.returns
returns c = c.part_bytes.ensures ∙ bytes-postcondition _ _
