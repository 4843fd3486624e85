-- What the functions of the table rest on.
--     Bits       the bits of a number, and of what and, or, not make of words
--     Leaves     the words of the leaves in a block of 64 assignments
--     Machine    the stack on which a formula is worked out
--     Lanes      the same in four lanes
--     Blocks     what the words of the blocks say of the assignments
pub mod Bits
pub mod Leaves
pub mod Machine
pub mod Lanes
pub mod Blocks
