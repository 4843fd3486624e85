-- A file from its bytes: its laws.
--     Found     words that refusals 2 to 6 let pass
--     Files     refusals 2 to 7 and 16 on words, and with 1 on bytes
--     Faults    the numbers and places of these refusals
pub mod Found
pub mod Files
pub mod Faults
