-- Laws of the rules of flow, but those of compound commands.
--     AtomicRules         commands of one step
--     ConsequenceRules    sets by implication
--     UnionRules          two parts of a set
--     UnmodifiedRules     what the command does not modify
--     AntecedentRules     sets under an assertion
--     CallRules           a call
pub mod AtomicRules
pub mod ConsequenceRules
pub mod UnionRules
pub mod UnmodifiedRules
pub mod AntecedentRules
pub mod CallRules
