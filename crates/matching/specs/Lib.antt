-- Words matched along a file.
--     Matching    numbers matched from a place on, with others in the place of a word
--     Places      an expression stands at a place, and its end is in the list of ends
pub mod Matching
pub mod Places
