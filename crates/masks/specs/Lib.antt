-- What each command of a file modifies, stored in numbers that the caller lends.
--     Masks        the masks of a file's words
--     WithMasks    the check with masks
--     LentNumbers    what is claimed of the lent numbers
--     Filled       masks by the words and the list of ends
pub mod Masks
pub mod WithMasks
pub mod LentNumbers
pub mod Filled
