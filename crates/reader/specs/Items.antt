-- What stands after an evidence word, item by item (document 01, "Rules").
-- Working: `item-walk` and `parts-walk` of proofs/Items say that the layout's readers walk so. Assumes nothing.
--     item_walk     an item
--     items_walk    the items of a row, one after the other
use Rattle.std.specs.Prelude.{List, ℕ}
use Rattle.language.specs.Syntax.{Boolean}
use Rattle.rules.specs.Context.{Context}
use Rattle.rules.specs.Evidence.{Item, assertion_item, command_item, members_item, child_item}
use Rattle.layout.specs.Read.{expression, command, set}
use Rattle.layout.specs.ReadEvidence.{parts_reader, evidence}
use Rattle.reader.specs.Walk.{Walk, walk_of}

abbrev pub item_walk : Context → List ℕ → ℕ → Item → ℕ → Walk
item_walk Γ file d assertion_item p = walk_of (expression file d Boolean p)
item_walk Γ file d command_item p = walk_of (command Γ file d p)
item_walk Γ file d members_item p = walk_of (set Γ file d p)
item_walk Γ file d (child_item j) p = walk_of (evidence Γ file d j p)

abbrev pub items_walk : Context → List ℕ → ℕ → List Item → ℕ → Walk
items_walk Γ file d l p = walk_of (parts_reader Γ file d (evidence Γ file d) l p)
