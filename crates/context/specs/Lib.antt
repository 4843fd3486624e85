-- Settings and the context in code.
--     Settings    the limits that settings give
--     Contexts    the context that it is, and refusals
pub mod Settings
pub mod Contexts
