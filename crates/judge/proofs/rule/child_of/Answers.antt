-- `judge::rule::child_of` meets its contract: the children of the goal's judgement.
-- Assumes nothing.
use Rattle.judge.proofs.Asked.{flow_child-asked, set_child-asked, pre-child_asked, child-is}
use Rattle.judge.proofs.rule.child_of.Goals as goal

pub flow_child-requires : goal.flow_child-requires
flow_child-requires c = flow_child-asked c.in-Flow.is c.requires

pub set_child-requires : goal.set_child-requires
set_child-requires c = set_child-asked c.in-Set.is c.requires

pub pre_child-requires : goal.pre_child-requires
pre_child-requires c = pre-child_asked c.in-Pre.is c.requires

pub returns-in-Flow : goal.returns-in-Flow
returns-in-Flow c =
    let a = c.args in
    child-is c.in-Flow.is a.file.now.words.now a.file.now.ends.now a.rule a.at a.k c.flow_child.ensures

pub returns-in-Set : goal.returns-in-Set
returns-in-Set c =
    let a = c.args in
    child-is c.in-Set.is a.file.now.words.now a.file.now.ends.now a.rule a.at a.k c.set_child.ensures

pub returns-in-Pre : goal.returns-in-Pre
returns-in-Pre c =
    let a = c.args in
    child-is c.in-Pre.is a.file.now.words.now a.file.now.ends.now a.rule a.at a.k c.pre_child.ensures
