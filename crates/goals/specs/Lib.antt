-- Goals by places and as trees.
--     Children    the goals of a rule's children
--     Conditions  the result of a condition that is a test
--     Resolved    commands and evidence at places, whose calls hold the bodies of their procedures
--     Goals       which trees a goal stands for; the contract of every rule; evidence judged
--     Files       the same of a file with what was worked out of it
pub mod Children
pub mod Conditions
pub mod Resolved
pub mod Goals
pub mod Files
