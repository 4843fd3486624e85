-- `words::rows::evidence_row` meets its contract, judgement by judgement.
-- Assumes nothing.
use Rattle.rules.specs.Evidence.{flow, implication, precondition}
use Rattle.words.proofs.RowItems.{row-due}
use Rattle.words.proofs.rows.evidence_row.Goals as goal

pub returns-in-Flow : goal.returns-in-Flow
returns-in-Flow c = rw c.in-Flow.is (row-due flow _ _ c.if-kind-eq-FLOW.true c.flow_row.ensures)

pub returns-in-Implication : goal.returns-in-Implication
returns-in-Implication c = rw c.in-Implication.is (row-due implication _ _ c.if-kind-eq-IMPLICATION.true c.set_row.ensures)

pub returns-in-Precondition : goal.returns-in-Precondition
returns-in-Precondition c = rw c.in-Precondition.is (row-due precondition _ _ c.if-kind-eq-PRECONDITION.true c.pre_row.ensures)
