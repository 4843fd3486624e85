-- The rules of necessary preconditions, by places (document 01, rules 20 to 30; document 02, rule 32).
--     Conditions    the rules' tests of assertions, by plain forms
--     Children      what the goal of a child is worked out from
pub mod Conditions
pub mod Children
