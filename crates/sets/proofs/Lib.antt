-- Laws about sets compared by the halves of their members.
--     Places     the places of a member
--     Steps      members passed one by one by their places
--     Items      members as the rules make them
--     Equal      sameness of halves as a test
--     Piles      lists joined and left out, and piles by what they are
--     Aligned    members in the same order
--     Tests      the tests of sets are those of halves
--     Trees      the halves that are compared are those of the trees that stand there
--     Rules      the conditions of the rules on sets
pub mod Places
pub mod Steps
pub mod Items
pub mod Equal
pub mod Piles
pub mod Aligned
pub mod Tests
pub mod Trees
pub mod Rules
