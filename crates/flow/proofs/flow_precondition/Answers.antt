-- `flow::flow_precondition` meets its contract: the part's places are what the layout says.
-- Assumes nothing.
use mathlib.Core.Path.{◌∙◌}
use Rattle.flow.proofs.Parts.{places-precondition}
use Rattle.flow.proofs.flow_precondition.Goals as goal

pub returns : goal.returns
returns c = c.part_places.ensures ∙ places-precondition _ _
