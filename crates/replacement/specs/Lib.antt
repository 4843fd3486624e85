-- The workbench call.
--     Put      the call
--     Steps    what the steps of the call ask for
pub mod Put
pub mod Steps
