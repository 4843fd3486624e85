-- What the program reads and writes.
--     Passed    what is read of known input, and written of a line to known output
pub mod Passed
