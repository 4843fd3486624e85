-- Evidence is read by the table of rules, item by item.
-- Assumes nothing.
--     item-walk, parts-walk                              the layout's readers of an item and of items, as walks
--     Reached                                            where the loop over a row stands
--     items-start, items-next, items-stop, items-done    as the loop has them
--     rule-none, rule-some                               the word that is due has no rule; it has one
use mathlib.Core.Path.{◌≡◌, refl, sym, ◌∙◌, ap}
use mathlib.Core.List.{List, ◌∷◌}
use mathlib.Core.Option.{Option, none, some}
use Prim.Native.Nat.{ℕ, ◌+◌, ◌-◌, ◌<◌, ◌≤◌}
use native.Mathlib.Omega.{arith}
use native.Mathlib.Numerals.{add-one}
use lib.ListN.{length, get_or, drop, drop_of_length-le}
use lib.Seq.{drop-cons}
use Rattle.std.specs.Prelude.{Ok, Err}
use Rattle.rules.specs.Context.{Context}
use Rattle.rules.specs.Evidence as tree
use Rattle.rules.specs.Evidence.{Judgement, Item, assertion_item, command_item, members_item, child_item, Row, ◌&◌}
use Rattle.layout.specs.Bytes.{word_count}
use Rattle.layout.specs.Reading.{on_option}
use Rattle.layout.specs.ReadEvidence.{item_reader, parts_reader, evidence}
use Rattle.words.specs.Rows.{item_meant, items_meant, rule_due, row_due}
use Rattle.words.specs.declared.rows.Item as code
use Rattle.words.specs.declared.rows.Item.TheVariants.{Assertion}
use Rattle.words.proofs.RowItems.{row-none, row-some}
use Rattle.context.specs.Contexts.{refusal}
use Rattle.context.specs.declared.Refusal.{Refusal}
use Rattle.reader.specs.Walk.{Walk, walk_of, onward, due_of}
use Rattle.reader.specs.Items.{item_walk, items_walk}
use Rattle.reader.specs.declared.FirstWord.{FirstWord}
use Rattle.reader.proofs.Walks.{onto, alone, on, off, rule_reader, evidence-goes, arm, none-arm}
use Rattle.reader.proofs.Forward.{item-left}

module _ (Γ : Context) (file : List ℕ) (d : ℕ) where
  item-walk : (x : Item) (p : ℕ) → item_walk Γ file d x p ≡ walk_of (item_reader Γ file d (evidence Γ file d) x p)
  item-walk assertion_item p = alone tree.assertion _ p
  item-walk command_item p = alone tree.command _ p
  item-walk members_item p = alone tree.members _ p
  item-walk (child_item j) p = alone tree.child _ p

  parts-walk : (x : Item) (l : List Item) (p : ℕ) →
      onward (item_walk Γ file d x p) (λ q. items_walk Γ file d l q) ≡ items_walk Γ file d (x ∷ l) p
  parts-walk x l p = onto _ _ _ refl (item-walk x p ∙ alone ◌&◌ _ p)

  -- i of the items `row` from `at` on are read, up to p
  pub record Reached (row : List code.Item) (at i p : ℕ) : Type 0 where
    pub left : word_count file - p ≤ word_count file - at
    pub items : items_walk Γ file d (items_meant (drop i row)) p ≡ items_walk Γ file d (items_meant row) at

  pub items-start : (row : List code.Item) (at : ℕ) → Reached row at 0 at
  items-start row at = record { left = omega arith; items = refl }

  module _ {row : List code.Item} {at i p : ℕ} (h : Reached row at i p) where
    pub items-done : length row ≤ i → Ok p ≡ items_walk Γ file d (items_meant row) at
    items-done z = ap (λ l. items_walk Γ file d (items_meant l) p) (sym (drop_of_length-le row z)) ∙ h.items

    -- what was returned for the item at i
    module _ (n : i < length row) where
      abbrev x : code.Item
      x = get_or row i Assertion

      step : onward (item_walk Γ file d (item_meant x) p) (λ q. items_walk Γ file d (items_meant (drop (i + 1) row)) q)
          ≡ items_walk Γ file d (items_meant row) at
      step =
          let e : drop i row ≡ x ∷ drop (i + 1) row = rw add-one (drop-cons row i Assertion n) in
          parts-walk (item_meant x) (items_meant (drop (i + 1) row)) p
          ∙ ap (λ l. items_walk Γ file d (items_meant l) p) (sym e) ∙ h.items

      pub items-stop : {y : Refusal} → Err y ≡ item_walk Γ file d (item_meant x) p → Err y ≡ items_walk Γ file d (items_meant row) at
      items-stop e = off (λ q. items_walk Γ file d (items_meant (drop (i + 1) row)) q) e ∙ step

      pub items-next : {q : ℕ} → Ok q ≡ item_walk Γ file d (item_meant x) p → Reached row at (i + 1) q
      items-next {q} e = record {
        left = let l = item-left file d p Γ (item_meant x) e in omega (arith, h.left);
        items = on (λ q. items_walk Γ file d (items_meant (drop (i + 1) row)) q) e refl ∙ step;
      }

-- ---- as the code has them: f is the word that is due, `row` its row
module _ (Γ : Context) (file : List ℕ) (d : ℕ) (j : Judgement) (at : ℕ) {f : FirstWord} (due : Ok f ≡ due_of file d at) where
  pub rule-none : none ≡ row_due j f.kind f.payload → Err (refusal 5 at) ≡ walk_of (evidence Γ file d j at)
  unfolding row_due
  rule-none h =
      none-arm (evidence-goes file Γ d j at) due refl
      (ap (λ (o : Option (Row j)). on_option o (rule_reader file Γ j at f.below)) (row-none (rule_due j f.kind f.payload) h))

  pub rule-some : {l : List Item} {x : Walk} → some l ≡ row_due j f.kind f.payload → x ≡ items_walk Γ file f.below l f.next →
      x ≡ walk_of (evidence Γ file d j at)
  unfolding row_due
  rule-some {l} e h =
      let s = row-some (rule_due j f.kind f.payload) e in
      arm (evidence-goes file Γ d j at) due refl s.1
      (h ∙ ap (λ m. items_walk Γ file f.below m f.next) s.2
      ∙ alone _ (parts_reader Γ file f.below (evidence Γ file f.below) s.0.after) f.next)
