-- Where the parts of a file end, and what its words assign.
--     Sizes         the sizes of what starts at each word
--     Ends          the places that the sizes make are the ends
--     Mending       ends of some words written anew
--     Swap          the sizes when one part is put in the place of another
--     Places        what stands at a place: its first word, and its parts at their places
--     Bits          bits of numbers
--     Marks         masks of what words assign
--     Put           a mask put in a list
--     BlockMasks    masks of blocks
--     Table         ends and masks together
pub mod Sizes
pub mod Ends
pub mod Mending
pub mod Swap
pub mod Places
pub mod Bits
pub mod Marks
pub mod Put
pub mod BlockMasks
pub mod Table
