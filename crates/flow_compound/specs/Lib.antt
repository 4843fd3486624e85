-- The rules of flow, by places (document 01, rules 1 to 14; document 02, rule 31).
--     Children    what the goal of a child is worked out from
pub mod Children
