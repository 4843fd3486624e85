-- Antecedents and consequents by places, and the trees that stand there.
--     Trees       the trees that stand at places, and what is put for an identifier
--     Plain       where plain forms start
--     Forms       antecedents and consequents as the rules form them
pub mod Trees
pub mod Plain
pub mod Forms
