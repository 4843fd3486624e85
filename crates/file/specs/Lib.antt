-- A file from its bytes.
--     Found    what refusals 1 to 7 and 16 leave: words, a table and places
pub mod Found
