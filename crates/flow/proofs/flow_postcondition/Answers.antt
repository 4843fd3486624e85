-- `flow::flow_postcondition` meets its contract: the part's places are what the layout says.
-- Assumes nothing.
use mathlib.Core.Path.{◌∙◌}
use Rattle.flow.proofs.Parts.{places-postcondition}
use Rattle.flow.proofs.flow_postcondition.Goals as goal

pub returns : goal.returns
returns c = c.part_places.ensures ∙ places-postcondition _ _
