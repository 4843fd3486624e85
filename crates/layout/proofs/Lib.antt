-- Reading is exact (document 01, "Layout"): what is read stands in the file by its words and fits, and what stands
-- there and fits is read.
-- Assumes nothing.
--     Constant           the integer of a constant's payload
--     Words              words as numbers
--     Stands             words between two places
--     Nodes              what stands at a place, by its first word and its parts
--     Forms              a node by the kind of its first word
--     Yields             one law for each combinator of readers
--     Spelled            what is read stands in the file: expressions, commands and sets
--     SpelledEvidence    the same of evidence
--     Back               what stands in the file is read: expressions, commands and sets
--     BackEvidence       the same of evidence
--     Faults             where readings end
--     WholeFile          a whole file
--     Resolved           calls that hold the bodies of their procedures
--     FileNodes          what each word of a file that was read is the first of
--     Fors               each word of kind 31 of a file that was read is the first of a `for`
--     Before             the context of a program that follows procedures
--     Range              the words of evidence and of a file are in range
--     Counted            the count of evidence words
--     Settings           settings within their ranges
pub mod Constant
pub mod Words
pub mod Stands
pub mod Nodes
pub mod Forms
pub mod Yields
pub mod Spelled
pub mod SpelledEvidence
pub mod Back
pub mod BackEvidence
pub mod Faults
pub mod WholeFile
pub mod Resolved
pub mod FileNodes
pub mod Fors
pub mod Before
pub mod Range
pub mod Counted
pub mod Settings
