-- `judge::rule::condition_at` meets its contract: the conditions of the goal's judgement.
-- Assumes nothing.
use Rattle.judge.proofs.Asked.{can-step_of, step_of}
use Rattle.judge.proofs.rule.condition_at.Goals as goal

pub flow_condition-requires : goal.flow_condition-requires
flow_condition-requires c =
    can-step_of c.in-Flow.is c.requires

pub set_condition-requires : goal.set_condition-requires
set_condition-requires c = can-step_of c.in-Set.is c.requires

pub pre_condition-requires : goal.pre_condition-requires
pre_condition-requires c =
    can-step_of c.in-Pre.is c.requires

pub returns-in-Flow : goal.returns-in-Flow
returns-in-Flow c = step_of c.in-Flow.is c.flow_condition.ensures

pub returns-in-Set : goal.returns-in-Set
returns-in-Set c = step_of c.in-Set.is c.set_condition.ensures

pub returns-in-Pre : goal.returns-in-Pre
returns-in-Pre c = step_of c.in-Pre.is c.pre_condition.ensures
