-- `judge::row::row_at` meets its contract: the table of the goal's judgement.
-- Assumes nothing.
use Rattle.judge.proofs.Carried.{row-of}
use Rattle.judge.proofs.row.row_at.Goals as goal

pub returns-in-Flow : goal.returns-in-Flow
returns-in-Flow c = row-of _ c.in-Flow.is c.flow_row.ensures

pub returns-in-Set : goal.returns-in-Set
returns-in-Set c = row-of _ c.in-Set.is c.set_row.ensures

pub returns-in-Pre : goal.returns-in-Pre
returns-in-Pre c = row-of _ c.in-Pre.is c.pre_row.ensures
