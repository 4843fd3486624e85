-- The runner's definition is exact: it ends, and stops, where the language's definition says.
--     Small, ReadFile               identifiers below 32, and that what is read has no others; refusals 1 to 7
--     Evaluated, Assigned           expressions and assignments, in a lent store and in a store that holds it
--     Before                        a step that is due comes before the end
--     Refusal                       refusals of a step: their numbers
--     Steps, OneStep                the steps of each command; one step at most is due
--     Agrees, RunAgrees             a run on a budget agrees with the definition
--     Order, Exact                  the runner's answer on bytes
--     Strict                        request [1] of document 02 against the order before it
pub mod Small
pub mod ReadFile
pub mod Evaluated
pub mod Assigned
pub mod Before
pub mod Refusal
pub mod Steps
pub mod OneStep
pub mod Agrees
pub mod RunAgrees
pub mod Order
pub mod Exact
pub mod Strict
