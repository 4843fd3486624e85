-- Laws of the rules' definitions.
--     Spell          the trees that words spell
--     Unique         one tree has a given spelling
--     Plain          the plain form of a boolean
--     Monotone       the rules are monotone in the sameness of antecedents
--     Decides        the tests of sets decide their statements
--     Passes         conditions that pass exactly when a statement holds
--     Table          the table decides the sentence of "Implies"
--     Implication    "Implies" as it is tried, and in a store
--     Forms          commands and sets taken apart by their form
--     Judged         the judge accepts exactly the derivations
--     Holds          what holds of every verdict
--     Replaced       substitution, in values
--     Stores         what is known of commands and stores
--     Agreement      agreement as sets demand
--     Sound          the rules are sound
pub mod Spell
pub mod Unique
pub mod Plain
pub mod Monotone
pub mod Decides
pub mod Passes
pub mod Table
pub mod Implication
pub mod Forms
pub mod Judged
pub mod Holds
pub mod Replaced
pub mod Stores
pub mod Agreement
pub mod Sound
