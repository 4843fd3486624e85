-- `flow::flow_put` meets its contract: the numbers of a refusal are small.
-- Assumes nothing.
use Rattle.flow.proofs.MasksAfter.{put-done, put_small, put_refused}
use Rattle.flow.proofs.flow_put.Goals as goal

pub pack-requires : goal.pack-requires
pack-requires c = put_small _ _ _ _ _ c.put-answer.ensures.done _ c.in-Err.is

pub returns-in-Ok : goal.returns-in-Ok
returns-in-Ok c = put-done _ _ _ _ _ c.put-answer.ensures.done c.in-Ok.is

pub returns-in-Err : goal.returns-in-Err
returns-in-Err c =
    put_refused _ _ _ _ _ c.put-answer.ensures.done _ c.in-Err.is
    c.pack.ensures
