-- The rules of implications between sets, by places (document 01, rules 13 to 19 of sets).
--     Conditions    the rules' conditions on written sets
pub mod Conditions
