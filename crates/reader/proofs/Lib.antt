-- Laws of walks.
--     Walks           walks by the word that is due
--     Forward         no walk leaves more words than the one that it goes on from
--     Leaving         a reading goes on past an operand of one word
--     Sets            members one after the other
--     Items           evidence is read by the table of rules
--     Contexts        walks do not depend on the procedures of the context
--     ProgramParts    the places of a program's parts
--     Programs        where procedures and the main program start
--     Whole           a whole file
--     Kept            a command in the place of another is read with all that stands around it
pub mod Walks
pub mod Forward
pub mod Leaving
pub mod Sets
pub mod Items
pub mod Contexts
pub mod ProgramParts
pub mod Programs
pub mod Whole
pub mod Kept
