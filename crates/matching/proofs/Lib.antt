-- Laws about words that stand from a place on.
--     Ranges      the numbers of a file between two places
--     Matching    the place past lists of numbers
--     Operands    the operands of an expression by the kind of its first word
--     Exchange    an expression's numbers are its first word's, then its operands'
--     Numbers     numbers spell words, and words spell one tree
--     Replaced    the numbers of an expression with another in the place of an identifier
--     Whole       numbers that lead from one place to another are those between them
--     SameNumbers equality of numbers as a test, of what stands at a place and of two parts
--     CommonPrefix how many numbers stand at the front of both of two lists
pub mod Ranges
pub mod Matching
pub mod Operands
pub mod Exchange
pub mod Numbers
pub mod Replaced
pub mod Whole
pub mod SameNumbers
pub mod CommonPrefix
