-- Scans of the words of expressions, commands and sets.
--     Scan        a range of words, one word after the other
--     Place       what starts at a place
--     Programs    the programs of a file in its list of ends
--     Pass        a scan that passes words until it comes to some of a kind
--     Fault       the answer of a scan for the first fault
--     Calls       refusal 16 on words
--     Steady      refusal 7 on words
--     ForsMask    the scalars that `for`s count with, and where `for`s stand
pub mod Scan
pub mod Place
pub mod Programs
pub mod Pass
pub mod Fault
pub mod Calls
pub mod Steady
pub mod ForsMask
