-- The rules of unions of sets, by places (document 01, rules 16 and 17 of sets).
--     Unions    the condition of rule 17
pub mod Unions
