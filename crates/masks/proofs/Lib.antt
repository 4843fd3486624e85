-- What each command of a file modifies, stored.
--     Joined     the masks of a word's parts together
--     Filling    masks stored from the last word to the first
--     Numbers    a number by its bits
--     Commands   the command that is read at a place
--     StoredList    a lent list with the masks stored
--     Stored     the masks that are filled for a file that was read are those of its words
--     FewNumbers    refusal 17
--     LentNumbers    what is claimed of the lent numbers
--     Raised     the masks under raised limits
pub mod Joined
pub mod Filling
pub mod Numbers
pub mod Commands
pub mod StoredList
pub mod Stored
pub mod FewNumbers
pub mod LentNumbers
pub mod Raised
