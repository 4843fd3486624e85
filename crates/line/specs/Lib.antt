-- The line of a verdict.
--     Line       numbers in decimal, the line of a verdict, the line for a file
--     Putting    bytes put at a place
pub mod Line
pub mod Putting
