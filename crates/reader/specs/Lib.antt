-- What the readers answer.
--     Walk      places: walks, and the word that is due
--     Leaves    operands of one word
--     Items     what stands after an evidence word
--     Program   the places of a program's parts
--     File      those of a file's, and where its programs start
pub mod Walk
pub mod Leaves
pub mod Items
pub mod Program
pub mod File
