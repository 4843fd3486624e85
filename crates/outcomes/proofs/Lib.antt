-- What refusals 1 to 9 and 16 leave of a file: laws.
--     ProgramGoal     one program: its goal, its evidence and its verdict
--     FilePrograms    the programs of a file, judged one after the other
--     Outcomes        outcomes, from words and from bytes
pub mod ProgramGoal
pub mod FilePrograms
pub mod Outcomes
