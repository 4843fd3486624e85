-- Laws of working out expressions.
--     Elements    the values of an array at 0 to 63
--     Places      where operands stand
--     Results     what is worked out is the definition's outcome
pub mod Elements
pub mod Places
pub mod Results
