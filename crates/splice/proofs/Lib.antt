-- A command in the place of another.
--     SimpleWords    a skip, an assert or an assignment at a place
--     Splice         numbers in the place of as many
--     Shift          such a command read by itself and in a file
--     Extents        how many levels what stands at a place takes
--     ReadTo         such a command that is read from a place up to another
--     Again          a file with such a command in the place of another is read as before
--     Walks          one walk for the file and for the changed one
pub mod SimpleWords
pub mod Splice
pub mod Shift
pub mod Extents
pub mod ReadTo
pub mod Again
pub mod Walks
