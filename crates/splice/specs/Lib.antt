-- A command in the place of another.
--     Simple         a skip, an assert or an assignment
--     Splice         numbers in the place of as many
--     SimpleWords    such a command at a place, by its words
--     Extent         how many levels what stands at a place takes, and where it ends
--     Walk           one walk for the file and for the changed one
pub mod Simple
pub mod Splice
pub mod SimpleWords
pub mod Extent
pub mod Walk
