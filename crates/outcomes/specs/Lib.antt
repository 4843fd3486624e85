-- What refusals 1 to 9 and 16 leave of a file.
--     Outcome     a verdict with the places of the main program's parts
--     Programs    the programs of a file, judged one after the other
pub mod Outcome
pub mod Programs
