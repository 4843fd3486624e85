-- The language of document 01.
--     Syntax      expressions of three sorts, commands
--     Store       stores, and the value of an expression in a store
--     Runs        the runs of a command, with their steps
--     Modifies    what a command modifies
pub mod Syntax
pub mod Store
pub mod Runs
pub mod Modifies
