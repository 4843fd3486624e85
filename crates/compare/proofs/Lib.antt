-- Laws about antecedents and consequents that are compared.
--     Forms       what the tests of consequents answer
--     Trees       the trees that are read at places are those that are written there
--     Halves      antecedents and consequents compared, by the trees that stand there
--     PlainTests  the comparison of booleans by their plain forms, on trees
--     PlainForms  booleans compared by their plain forms, at their places
--     Starts      where plain forms start
--     Formed      booleans compared with those that the rules form
pub mod Forms
pub mod Trees
pub mod Halves
pub mod PlainTests
pub mod PlainForms
pub mod Starts
pub mod Formed
