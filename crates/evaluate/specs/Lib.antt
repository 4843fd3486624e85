-- What working out expressions promises.
--     Evaluated    outcomes, and contracts by the tree that stands at a place
pub mod Evaluated
