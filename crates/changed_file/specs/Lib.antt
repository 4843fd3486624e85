-- A file with other words in the place of a command's.
--     Tables     tables without masks of blocks
--     Changed    what is known of the changed words
pub mod Tables
pub mod Changed
