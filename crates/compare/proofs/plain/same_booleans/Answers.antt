-- `compare::plain::same_booleans` meets its contract: the same words, or the same plain forms.
-- Assumes nothing.
use Rattle.compare.proofs.PlainForms.{boolean-known, start-known, same-written, same-by_words}
use Rattle.compare.proofs.Formed.{can-true, unchanged}
use Rattle.compare.proofs.plain.same_booleans.Goals as goal

pub same_parts-requires : goal.same_parts-requires
same_parts-requires c =
    let p = c.requires in
    (boolean-known p.ends_of p.first, boolean-known p.ends_of p.second)

pub returns-then-same_parts : goal.returns-then-same_parts
returns-then-same_parts c =
    let p = c.requires in
    same-written p.ends_of p.first p.second c.same_parts.ensures c.if-same_parts.true

pub plain_start-a-requires : goal.plain_start-a-requires
plain_start-a-requires c = let p = c.requires in can-true p.ends_of p.first

pub plain_start-b-requires : goal.plain_start-b-requires
plain_start-b-requires c = let p = c.requires in can-true p.ends_of p.second

pub same_parts-requires-2 : goal.same_parts-requires-2
same_parts-requires-2 c =
    let p = c.requires in
    (start-known p.ends_of c.plain_start-a.ensures, start-known p.ends_of c.plain_start-b.ensures)

pub returns-then-same_parts-2 : goal.returns-then-same_parts-2
returns-then-same_parts-2 c =
    let p = c.requires in
    same-by_words p.ends_of c.plain_start-a.ensures c.plain_start-b.ensures c.same_parts-2.ensures
    c.if-same_parts-2.true

pub returns : goal.returns
returns c = unchanged _ _ _ c.same_booleans_changed.ensures
