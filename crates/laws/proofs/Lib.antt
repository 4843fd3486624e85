-- General laws, said once.
--     Bools      tests and their connectives
--     Decides    a test that decides a statement
pub mod Bools
pub mod Decides
