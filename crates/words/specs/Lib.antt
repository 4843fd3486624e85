-- Words of a file as the code has them (document 01, "Layout").
--     Load       words from bytes
--     Decode     what a word stands for
--     Meaning    what the layout's tables give at a decoded word
--     Rows       the table of rules
pub mod Load
pub mod Decode
pub mod Meaning
pub mod Rows
