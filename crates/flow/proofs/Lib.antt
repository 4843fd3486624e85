-- The check on bytes: its laws.
--     Answers       the answer of the check, by its outcome
--     Parts         the parts of an accepted file lie in its bytes
--     Refusals      where the judge refuses
--     Packed        a verdict's numbers are small; the number for C
--     MasksAfter    the check with masks and the workbench call
--     PutRaised     the workbench call under raised settings
pub mod Answers
pub mod Parts
pub mod Refusals
pub mod Packed
pub mod MasksAfter
pub mod PutRaised
