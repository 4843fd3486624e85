-- Laws of contexts.
--     Limits    the limits of a context with procedures, and settings
pub mod Limits
