-- The claims, proved.
--     Check            demands 2 and 3, of the check
--     Runner           demand 2, of the runner
--     AsBefore         request [1] of document 02 against the order before it
--     StillAccepted    request [2] of document 02 against the rules before it
--     ByCases          request [4] of document 02: constants by cases
--     Settings         request [6] of document 02: the old values, and raised settings
--     Table            document 01's starred rows, and the least and the greatest payload of each case of request [4]
pub mod Check
pub mod Runner
pub mod AsBefore
pub mod StillAccepted
pub mod ByCases
pub mod Settings
pub mod Table
