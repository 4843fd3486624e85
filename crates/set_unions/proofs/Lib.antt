-- Laws of the rules of unions of sets (document 01, rules 16 and 17 of sets).
--     Goal          a goal of two sets as trees at their places; a rule with no children; children by their number
--     Unions        rules 16 and 17
pub mod Goal
pub mod Unions
