-- Past what is carried, of a row: the loop over its items.
-- Assumes nothing.
--     Passing, past-start, past-step, past_end    what is left of a row, and its place; at the start; past an item that is
--                                                 carried; at one that is not, and past the last
--     row-of                                      the row of a goal, by its judgement
use mathlib.Core.Path.{◌≡◌, refl, sym, ap, subst, ◌∙◌}
use mathlib.Core.Bool.{true, false}
use mathlib.Core.List.{List, ◌∷◌}
use mathlib.Core.Option.{Option}
use Prim.Native.Nat.{ℕ, ◌+◌, ◌-◌, ◌<◌, ◌≤◌}
use native.Mathlib.Omega.{arith}
use native.Mathlib.Numerals.{add-one}
use lib.ListN.{length, get_or, take, drop, drop_of_length-le, length-drop}
use lib.Seq.{drop-cons, drop-length, take_all}
use Rattle.laws.proofs.Bools.{clash}
use Rattle.rules.specs.Evidence.{Item, assertion_item, command_item, members_item, child_item}
use Rattle.words.specs.Rows.{item_meant, items_meant, row_of}
use Rattle.words.specs.declared.rows.Item as code
use Rattle.words.specs.declared.rows.Item.TheVariants.{Assertion}
use Rattle.goals.specs.declared.Goal.{Goal}
use Rattle.goals.specs.Children.{judgement_of, carried_off, past_carried}
use Rattle.ends.specs.Places.{end_at}
use Rattle.judge.specs.Row.{is_carried}

-- of a row whose items stand from `at` on, those from number i on are left from next on
pub record Passing (ends : List ℕ) (row : List code.Item) (at i next : ℕ) : Type 0 where
  pub place : past_carried ends (items_meant (drop i row)) next ≡ past_carried ends (items_meant row) at
  pub off : carried_off (items_meant (drop i row)) ≡ carried_off (items_meant row)

pub past-start : (ends : List ℕ) (row : List code.Item) (at : ℕ) → Passing ends row at 0 at
past-start ends row at = record { place = refl; off = refl }

-- a slice from a place on is what is left there
from-place : (row : List code.Item) (i : ℕ) → take (length row - i) (drop i row) ≡ drop i row
from-place row i = let l = length-drop i row in take_all _ _ (omega (arith, l))

-- past an item that is carried
past-item : (ends : List ℕ) (x : Item) (l : List Item) (at : ℕ) → is_carried x ≡ true →
    (past_carried ends (x ∷ l) at ≡ past_carried ends l (end_at ends at)) × (carried_off (x ∷ l) ≡ carried_off l)
past-item ends assertion_item l at e = (refl, refl)
past-item ends command_item l at e = (refl, refl)
past-item ends members_item l at e = (refl, refl)
past-item ends (child_item j) l at e = clash e refl

-- at one that is not
at-child : (ends : List ℕ) (x : Item) (l : List Item) (at : ℕ) → is_carried x ≡ false →
    (past_carried ends (x ∷ l) at ≡ at) × (carried_off (x ∷ l) ≡ x ∷ l)
at-child ends assertion_item l at e = clash refl e
at-child ends command_item l at e = clash refl e
at-child ends members_item l at e = clash refl e
at-child ends (child_item j) l at e = (refl, refl)

module _ {ends : List ℕ} {row : List code.Item} {at i next : ℕ} (p : Passing ends row at i next) where
  -- the place past what is carried, and the items from there on
  abbrev PastCarriedTo : ℕ → List code.Item → Type 0
  PastCarriedTo q rest = (q ≡ past_carried ends (items_meant row) at) × (items_meant rest ≡ carried_off (items_meant row))

  pub past_end : length row ≤ i → PastCarriedTo next (take (length row - length row) (drop (length row) row))
  past_end h =
      let e = drop_of_length-le row h in (
        ap (λ l. past_carried ends (items_meant l) next) (sym e) ∙ p.place,
        ap items_meant (from-place row (length row) ∙ drop-length row)
            ∙ ap (λ l. carried_off (items_meant l)) (sym e) ∙ p.off,
      )

  module _ (n : i < length row) where
    abbrev x : code.Item
    x = get_or row i Assertion

    split : drop i row ≡ x ∷ drop (i + 1) row
    split = rw add-one (drop-cons row i Assertion n)

    pub past-step : is_carried (item_meant x) ≡ true → {e : ℕ} → e ≡ end_at ends next → Passing ends row at (i + 1) e
    past-step c h =
        let k = past-item ends (item_meant x) (items_meant (drop (i + 1) row)) next c in
        record {
          place = ap (past_carried ends (items_meant (drop (i + 1) row))) h ∙ sym k.0
              ∙ ap (λ l. past_carried ends (items_meant l) next) (sym split) ∙ p.place;
          off = sym k.1 ∙ ap (λ l. carried_off (items_meant l)) (sym split) ∙ p.off;
        }

    pub past_stop : is_carried (item_meant x) ≡ false → PastCarriedTo next (take (length row - i) (drop i row))
    past_stop c =
        let k = at-child ends (item_meant x) (items_meant (drop (i + 1) row)) next c in (
          sym k.0 ∙ ap (λ l. past_carried ends (items_meant l) next) (sym split) ∙ p.place,
          ap items_meant (from-place row i ∙ split) ∙ sym k.1 ∙ ap (λ l. carried_off (items_meant l)) (sym split) ∙ p.off,
        )

-- the row of a goal by its judgement
pub row-of : {goal g : Goal} {r : Option (List Item)} (rule : ℕ) → goal ≡ g → r ≡ row_of (judgement_of g) rule →
    r ≡ row_of (judgement_of goal) rule
row-of {r = r} rule e h = subst (λ x. r ≡ row_of (judgement_of x) rule) (sym e) h
