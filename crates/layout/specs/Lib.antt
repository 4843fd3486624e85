-- The layout of a file and its judging, from the list of its bytes (document 01, "Layout" and "Judging order").
--     Bytes           the words of a file
--     Constant        the integer of a constant's payload
--     Reading         what reading gives, and readers one after the other
--     Read            expressions, commands and sets
--     ReadEvidence    evidence
--     Spelling        how expressions, commands and sets stand in a file
--     EvidenceWords   how evidence stands in a file
--     Nodes           expressions, commands and sets as nodes: a first word and parts
--     Standing        words and parts between two places
--     Program         a command with its contract and evidence
--     Call            refusal 16
--     For             refusal 7
--     File            refusals 19, 1 to 7 and 16: a file as trees
--     Before          the context of a program that follows procedures
--     FileWords       how a whole file stands by its words
--     Counted         the count of evidence words
--     Verdict         refusals 19, 1 to 9 and 16: the answer, and the parts of an accepted file
pub mod Bytes
pub mod Constant
pub mod Reading
pub mod Read
pub mod ReadEvidence
pub mod Spelling
pub mod EvidenceWords
pub mod Nodes
pub mod Standing
pub mod Program
pub mod Call
pub mod For
pub mod File
pub mod Before
pub mod FileWords
pub mod Counted
pub mod Verdict
