-- Formulas whose value is tried at many assignments.
--     Formula    formulas, their spelling as bytes, and their words
pub mod Formula
