-- Laws of goals and of rules at their evidence words.
--     Evidence    the evidence of a goal by its rule
--     Children    the row of its rule, and as many goals for children
--     Comes       what a rule comes to, from the trees at its places
--     Ensured     a test that is tried by `?`
pub mod Evidence
pub mod Comes
pub mod Children
pub mod Ensured
