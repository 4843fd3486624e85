-- Written sets as the rules of sets and of flow use them.
--     Members    the members of a written set at their places
pub mod Members
