-- `matching::part::same_parts` meets its contract: the last words, then those before them.
-- Assumes nothing.
use mathlib.Core.Path.{◌∙◌}
use borrow.Author.Tests.{ne_eqb}
use Rattle.matching.proofs.SameNumbers.{parts_last, parts-rest}
use Rattle.matching.proofs.part.same_parts.Goals as goal

pub returns-then-w-e : goal.returns-then-w-e
returns-then-w-e c =
    let p = c.requires in
    c.same_words.ensures ∙ parts-rest _ _ _ _ p.0 p.1 _ _ c.end_at-e.ensures c.end_at-to.ensures c.if-w-e.true

pub returns-else-w-e : goal.returns-else-w-e
returns-else-w-e c =
    let p = c.requires in
    ne_eqb _ _ c.if-w-e.false
    ∙ parts_last _ _ _ _ p.0 p.1 _ _ c.end_at-e.ensures c.end_at-to.ensures c.if-w-e.false
