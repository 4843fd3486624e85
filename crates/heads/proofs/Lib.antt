-- Laws of what stands at a place.
--     Decoded    its first word, decoded
--     Parts      its parts, by that word
pub mod Decoded
pub mod Parts
