-- Laws of evidence judged child by child.
--     Carried   past what is carried, of a row
--     Asked     a rule by the judgement of its goal
--     Counts    the count of accepted evidence is at most its words
--     Going     the children, one after the other
pub mod Carried
pub mod Asked
pub mod Counts
pub mod Going
