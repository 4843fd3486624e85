-- Assertions, sets and rules of document 01.
--     Words         the words of an expression and of a command, and sameness by words
--     Assertion     members, and agreement of two stores
--     Context       the limits, and what a program is judged under
--     Replace       substitution
--     Plain         booleans without "true and" and "and true"
--     Sets          sets compared and made
--     Implies       the implication over distinct comparisons
--     Tests         the statements of Sets and Implies as tests; laws tie them
--     Evidence      the table of rules, and evidence as trees
--     Derivation    the rules, a constructor each
--     Condition     conditions as tests, with three results
--     Judge         the judging of evidence in file order
--     Resolved      calls that hold the bodies of their procedures
pub mod Words
pub mod Assertion
pub mod Context
pub mod Replace
pub mod Plain
pub mod Sets
pub mod Implies
pub mod Tests
pub mod Evidence
pub mod Derivation
pub mod Condition
pub mod Judge
pub mod Resolved
