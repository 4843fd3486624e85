-- Laws of signed 64-bit arithmetic.
--     Signed     what a local holds, and results that are checked
pub mod Signed
