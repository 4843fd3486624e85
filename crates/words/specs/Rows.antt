-- The table of rules as the code has it: a row is the list of its items.
-- Working: `row-rule` of proofs/RowItems ties it to the table of rules. Assumes nothing.
--     judgement_meant      the judgement of the definitions
--     item_meant, items_meant
--                          an item of the definitions; items one after the other
--     row_meant            a row, if there is one
--     row_items, row_of    the items of a row; of the row of a rule's number
--     rule_due, row_due    the rule of a word where evidence of a judgement is due; its items
use Rattle.std.specs.Prelude.{cond, List, map, ℕ, eqb}
use Rattle.std.specs.Prelude as std
use Rattle.std.proofs.Common.{Bor}
use Rattle.std.proofs.Math.Option.{Option, none, some}
use Rattle.rules.specs.Evidence.{Judgement, flow, implication, precondition, Item, assertion_item, command_item}
use Rattle.rules.specs.Evidence.{members_item, child_item, Row, rules}
use Rattle.layout.specs.ReadEvidence.{evidence_kind, rule_of}
use Rattle.words.specs.declared.Judgement as code
use Rattle.words.specs.declared.Judgement.TheVariants.{Flow, Implication, Precondition}
use Rattle.words.specs.declared.rows.Item as row
use Rattle.words.specs.declared.rows.Item.TheVariants.{Assertion, Command, Members, Child}

abbrev pub judgement_meant : code.Judgement → Judgement
judgement_meant Flow = flow
judgement_meant Implication = implication
judgement_meant Precondition = precondition

abbrev pub item_meant : row.Item → Item
item_meant Assertion = assertion_item
item_meant Command = command_item
item_meant Members = members_item
item_meant (Child j) = child_item (judgement_meant j)

abbrev pub items_meant : List row.Item → List Item
items_meant l = map item_meant l

abbrev pub row_meant : std.Option (Bor (List row.Item)) → Option (List Item)
row_meant std.None = none
row_meant (std.Some l) = some (items_meant l.now)

abbrev pub row_items : {j : Judgement} → Option (Row j) → Option (List Item)
row_items none = none
row_items (some r) = some r.after

abbrev pub row_of : Judgement → ℕ → Option (List Item)
row_of j n = row_items (rule_of n (rules j))

abbrev pub rule_due : (j : Judgement) → ℕ → ℕ → Option (Row j)
rule_due j k p = cond (eqb k (evidence_kind j)) (rule_of p (rules j)) none

unfoldable pub row_due : Judgement → ℕ → ℕ → Option (List Item)
row_due j k p = row_items (rule_due j k p)
