-- Laws of the rules of necessary preconditions, but those of compound commands (document 01, rules 22 and 24 to 29;
-- document 02, rule 32).
--     Commands        rules 22, 24, 25 and 26
--     Modifies        rule 27
--     Consequences    rules 28 and 29
--     Calls           rule 32
pub mod Commands
pub mod Modifies
pub mod Consequences
pub mod Calls
