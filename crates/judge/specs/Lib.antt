-- Evidence judged child by child.
--     Row      past what is carried, of a row
--     Refusals conditions that do not pass
--     Going    the children, one after the other
pub mod Row
pub mod Refusals
pub mod Going
