-- Laws of the runner on bytes.
--     Procedures    where the programs of a file stand
--     Files         refusals 1 to 7 and 16
--     Programs      refusals 10 and 11, and the run
--     Small         the answer as one number
pub mod Procedures
pub mod Files
pub mod Programs
pub mod Small
