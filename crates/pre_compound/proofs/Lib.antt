-- Laws of the rules of necessary preconditions, those of compound commands (document 01, rules 20, 21, 23 and 30).
--     Assertions      the rules' tests of assertions, by plain forms
--     Goal            a goal as trees at their places; a rule by the result of its conditions; the rules with children
--     Sequences       rule 23
--     Branches        rule 20
--     Implications    the two implications of rule 21
--     Iterations      rules 21 and 30
pub mod Assertions
pub mod Goal
pub mod Sequences
pub mod Branches
pub mod Implications
pub mod Iterations
