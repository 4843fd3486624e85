-- What raised settings change (document 02, request [6]): readings and verdicts stay but for refusals 4, 9 and the 5 of a set's count.
-- Assumes nothing.
--     Readings    readings under raised limits: one law for each combinator of readers
--     Readers     of expressions, commands, sets, evidence and programs
--     Files       of a whole file
--     Judged      evidence judged under more comparisons
--     Verdicts    a file judged under more comparisons
pub mod Readings
pub mod Readers
pub mod Files
pub mod Judged
pub mod Verdicts
