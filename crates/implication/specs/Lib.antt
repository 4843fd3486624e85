-- An implication between booleans that are written in a file.
--     Sides        what is compared, and the contract
--     Scanning     the words of a boolean by what matters of each, and ranges of words
--     Compiling    comparisons by number, formulas, and what compiling gives
pub mod Sides
pub mod Scanning
pub mod Compiling
