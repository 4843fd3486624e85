-- Scans of the words of expressions, commands and sets, and refusals 16 and 7.
--     Least         the lesser of two numbers, as std's `min` answers it
--     Ranges        a turn of a scan
--     Trees         what the scans find where an expression, a command or a set stands
--     Places        the same up to the end that a list of ends has
--     First         the first place that passes a test
--     Passing       a scan that passes words until it comes to some of a kind
--     FilePrograms    the programs of a file that stands, by its words and its list of ends
--     ProcedureMasks    the masks of procedures as they are filled
--     Procedures    what the list of ends has of the procedures
--     WrongCalls    refusal 16
--     Tests         the test of a place and the scan for the first
--     ForMasks      the scalars that `for`s count with, as they are collected
--     StillSteady   refusal 7 where a command is put in the place of another
pub mod Least
pub mod Ranges
pub mod Trees
pub mod Places
pub mod First
pub mod Passing
pub mod FilePrograms
pub mod ProcedureMasks
pub mod Procedures
pub mod WrongCalls
pub mod Tests
pub mod ForMasks
pub mod StillSteady
