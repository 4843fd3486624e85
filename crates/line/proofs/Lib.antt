-- The line of a verdict: its laws.
--     Lines    bytes put at a place; a number in decimal
pub mod Lines
