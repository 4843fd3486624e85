-- Laws that the rules of all three judgements use.
--     Commands    the form of a written command by the kind of its first word, and its parts
--     Passing     sameness with what stands at a place
--     Meaning     the words of what a `for` means
--     Keeping     a scan for what a command modifies
--     Implying    sides of an implication by their places
--     Trying      the parts after a rule's evidence word
pub mod Commands
pub mod Passing
pub mod Meaning
pub mod Keeping
pub mod Implying
pub mod Trying
