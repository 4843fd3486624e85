-- The check on bytes.
--     Answer          the answer by the outcome, and as one number
--     Part            the parts of an accepted file
--     Checked         what the check promises, of its answer and of the bytes
--     CheckedMasks    what the check with masks and the workbench call promise
pub mod Answer
pub mod Part
pub mod Checked
pub mod CheckedMasks
