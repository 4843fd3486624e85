-- The workbench call.
--     Puts        the call by its steps
--     PutReads    the call up to the reading of the file
pub mod Puts
pub mod PutReads
