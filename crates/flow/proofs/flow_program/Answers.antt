-- `flow::flow_program` meets its contract: the part's places are what the layout says.
-- Assumes nothing.
use mathlib.Core.Path.{◌∙◌}
use Rattle.flow.proofs.Parts.{places-program}
use Rattle.flow.proofs.flow_program.Goals as goal

pub returns : goal.returns
returns c = c.part_places.ensures ∙ places-program _ _
