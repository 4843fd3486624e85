-- `compare::plain::same_changed` meets its contract: two parts, or all stood there, up to the end.
-- Assumes nothing.
use Rattle.matching.proofs.SameNumbers.{came-to}
use Rattle.compare.proofs.Trees.{put-inside}
use Rattle.compare.proofs.PlainForms.{boolean-known, of-replaced, unchanged-words, replaced-words}
use Rattle.compare.proofs.plain.same_changed.Goals as goal

pub same_parts-requires : goal.same_parts-requires
same_parts-requires c =
    let p = c.requires in
    (boolean-known p.ends_of p.first, boolean-known p.ends_of p.second)

pub match_boolean-end-requires : goal.match_boolean-end-requires
match_boolean-end-requires c =
    let p = c.requires in
    record {
      ends_of = p.ends_of;
      expression = p.second;
      inside = put-inside (of-replaced p.change-at c.in-Replaced.is).stands;
    }

pub came_to_end-requires : goal.came_to_end-requires
came_to_end-requires c =
    let p = c.requires in
    (boolean-known p.ends_of p.first).listed

pub returns-in-Unchanged : goal.returns-in-Unchanged
returns-in-Unchanged c =
    let p = c.requires in
    unchanged-words p.first p.second c.in-Unchanged.is c.same_parts.ensures

pub returns-in-Replaced : goal.returns-in-Replaced
returns-in-Replaced c =
    let p = c.requires in
    replaced-words p.first p.second c.in-Replaced.is (of-replaced p.change-at c.in-Replaced.is)
    (came-to _ _ _ (boolean-known p.ends_of p.first) _ _ c.match_boolean-end.ensures.is c.came_to_end.ensures)
