-- `compare::consequent::same_consequent` meets its contract, by form.
-- Assumes nothing.
use Rattle.compare.proofs.Forms.{of-verbatim, of-exchanged, consequent-written, consequent-replaced}
use Rattle.compare.proofs.consequent.same_consequent.Goals as goal

pub same_parts-requires : goal.same_parts-requires
same_parts-requires c =
    let p = c.requires in
    (p.whole, of-verbatim p.form-at c.in-Written.is)

pub match_expression-end-requires : goal.match_expression-end-requires
match_expression-end-requires c =
    let p = c.requires in
    of-exchanged p.form-at c.in-Replaced.is

pub returns-in-Written : goal.returns-in-Written
returns-in-Written c =
    let p = c.requires in
    consequent-written _ _ _ p.whole _ _ c.in-Written.is c.same_parts.ensures

pub returns-in-Replaced : goal.returns-in-Replaced
returns-in-Replaced c =
    let p = c.requires in
    consequent-replaced _ _ _ p.whole _ _ _ _ c.in-Replaced.is c.match_expression-end.ensures
    c.came_to_end.ensures
