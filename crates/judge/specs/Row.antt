-- What is carried, of a row of the table of rules.
-- Working: `past-start`, `past-step` and `past_end` of proofs/Carried say that the code's loop comes to it. Assumes nothing.
--     is_carried     an item is carried
--     PastCarried    past what is carried: the place and the items from there on
use Rattle.std.specs.Prelude.{◌≡◌, Bool, true, false, List, ℕ}
use Rattle.rules.specs.Evidence.{Item, assertion_item, command_item, members_item, child_item}
use Rattle.words.specs.Rows.{items_meant}
use Rattle.words.specs.declared.rows.Item as code
use Rattle.goals.specs.Children.{carried_off, past_carried}
use Rattle.judge.specs.declared.row.First.{First}

abbrev pub is_carried : Item → Bool
is_carried assertion_item = true
is_carried command_item = true
is_carried members_item = true
is_carried (child_item j) = false

pub record PastCarried (ends : List ℕ) (row : List code.Item) (at : ℕ) (r : First) : Type 0 where
  pub past : (r.at ≡ past_carried ends (items_meant row) at) × (items_meant r.rest.now ≡ carried_off (items_meant row))
