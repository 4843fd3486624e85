-- What running commands promises.
--     Steps     what one step does
--     Places    what running the command at a place asks for and promises
--     Turns     the same of a while and of a `for` from its test on
pub mod Steps
pub mod Places
pub mod Turns
