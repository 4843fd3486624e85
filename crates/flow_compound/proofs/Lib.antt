-- Laws of the rules of flow, those of compound commands.
--     Goal                a goal with its evidence, as trees at their places
--     SequenceRules       a sequence
--     BranchRules         an if
--     LoopRules           loops
--     Children            of which rule a child is
pub mod Goal
pub mod SequenceRules
pub mod BranchRules
pub mod LoopRules
pub mod Children
