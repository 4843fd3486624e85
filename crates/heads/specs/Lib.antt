-- What stands at a place.
--     Stands    an expression of a sort, a command
pub mod Stands
