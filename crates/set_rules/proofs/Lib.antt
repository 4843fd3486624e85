-- Laws of the rules of implications between sets, but those of unions (document 01, rules 13 to 15, 18 and 19 of sets).
--     Inclusions    rule 13
--     EmptySets     rules 14 and 15
--     Antecedents   rule 18
--     Operands      rule 19
pub mod Inclusions
pub mod EmptySets
pub mod Antecedents
pub mod Operands
