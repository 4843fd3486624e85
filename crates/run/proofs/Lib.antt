-- Laws of running commands.
--     Steps       one step
--     Bodies      the parts of a command can be worked out and run
--     Bounds      the steps left never grow
--     Turns       turns one after the other
--     Commands    what comes of the parts of a command
pub mod Steps
pub mod Bodies
pub mod Bounds
pub mod Turns
pub mod Commands
