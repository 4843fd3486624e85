-- What stands at a place, up to its end in the list of ends, and what is asked of it.
--     Sameness        sameness of what stands at two places; nothing of what stands at a place is modified
--     Implications    an assertion implies another
pub mod Sameness
pub mod Implications
