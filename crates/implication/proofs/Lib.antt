-- What the functions of the implication rest on.
--     WordBytes    the byte of a word in a formula
--     Spans        ranges of words
--     Numbers      comparisons by number
--     Encodings    words that fit are known by their numbers
--     Pieces       the words of a boolean: connectives, truths and comparisons
--     Walks        the walk that compiles a boolean
--     Pairs        two booleans one after the other, and the boolean that a side is
--     Meaning      the table decides the definition's condition
--     Answers      what the compiled sides and the table say of the implication
pub mod WordBytes
pub mod Spans
pub mod Numbers
pub mod Encodings
pub mod Pieces
pub mod Walks
pub mod Pairs
pub mod Meaning
pub mod Answers
