-- Written sets compared by the two halves of their members.
--     Items       members as the rules make them, in two halves, and their comparison
--     Lists       sets as lists of their members' halves
--     Standing    members, views and items stand in a file
--     Members     the places of members, one after the other
--     Piles       the sets that the rules make of written ones
--     Aligned     a written set matched with piles in order
--     Trees       the trees that stand where sets are compared
--     Rules       what the rules ask of sets
pub mod Items
pub mod Lists
pub mod Standing
pub mod Members
pub mod Piles
pub mod Aligned
pub mod Trees
pub mod Rules
