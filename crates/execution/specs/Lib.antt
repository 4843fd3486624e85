-- The runner's definition (document 01, "Runner" and "Judging order" 10 to 15; document 02, requests [1] and [3]).
--     Lent        the store that is lent to the runner
--     Evaluate    expressions worked out within the runner's bounds
--     Run         commands run on a budget of steps
--     Ran         the runner's answer on bytes
--     Due         the step that is due after so many steps, by the language's definition
--     Refusal     the refusal that is said of such a step
--     Executes    what a run comes to, by the language's definition and an order of refusals
--     Strict      the refusals by the order before request [1] of document 02
pub mod Lent
pub mod Evaluate
pub mod Run
pub mod Ran
pub mod Due
pub mod Refusal
pub mod Executes
pub mod Strict
