-- Laws of the words of a file.
--     Loading    words loaded from bytes
--     Lengths    refusal 1, and the words of a file that it lets pass
--     Tables     the layout's tables at a decoded word
--     RowItems   the rows of the table of rules, item by item
pub mod Loading
pub mod Lengths
pub mod Tables
pub mod RowItems
