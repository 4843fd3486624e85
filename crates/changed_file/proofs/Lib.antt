-- A file with other words in the place of a command's.
--     Tables         tables without masks of blocks
--     Mended         the table of a file with a command in the place of another
--     ChangedWords   refusal 7 of the changed words
pub mod Tables
pub mod Mended
pub mod ChangedWords
