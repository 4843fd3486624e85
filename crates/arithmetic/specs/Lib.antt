-- What the arithmetic answers.
--     Worked    outcomes
pub mod Worked
