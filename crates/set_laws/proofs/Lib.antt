-- Laws about written sets that the rules of sets and of flow use.
--     Sets      a written set by its count and its members
pub mod Sets
