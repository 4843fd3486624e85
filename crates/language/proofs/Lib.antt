-- Laws of the language.
--     Integers    the test of integers decides their equality
--     Once        a command has one ending store and one step count from a store
--     Values      an expression's value depends on its identifiers alone
--     Kept        a run changes only what its command modifies
--     Loops       two runs of a loop, side by side
pub mod Integers
pub mod Once
pub mod Values
pub mod Kept
pub mod Loops
