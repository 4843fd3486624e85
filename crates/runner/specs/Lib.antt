-- The runner on bytes.
--     Ran        what the runner promises
--     Packed     the same as one number, for callers in C
--     Running    the same, step by step over the words
pub mod Ran
pub mod Packed
pub mod Running
