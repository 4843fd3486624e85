-- Where the parts of a file end, and what its words assign.
--     Mask      identifiers as the bits of a number
--     Blocks    what words assign, as masks
--     Ends      the place past each expression, command and set, and the masks of blocks
--     Places    what stands at a place, up to its end in the list of ends
--     Sizes     that place, found from the last word to the first
--     Mend      ends of some words written anew
--     Procedures    the procedures of a file, in its list of ends
pub mod Mask
pub mod Blocks
pub mod Ends
pub mod Places
pub mod Sizes
pub mod Mend
pub mod Procedures
