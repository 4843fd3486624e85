-- Members as the rules make them, half by half.
-- Assumes nothing.
--     item-written, item-under, item-unless, item-replaced    by view
--     item-not, item-so                                     a written member compared with an item
--     words-not, words-so                                   two written members by words
--     seen_at, written-item, pair_at, certain_at                what an item names stands there
--     as_they_stand                                         members as they stand
--     see                                                   a member that is seen can be compared
--     same-as, has-as                                       an item that is the same
use mathlib.Core.Path.{◌≡◌, sym, ap, ap₂, subst, ◌∙◌}
use mathlib.Core.Bool.{Bool, true, false, ◌&&◌, and-true, and-false}
use mathlib.Core.List.{List}
use Prim.Native.Nat.{ℕ}
use Rattle.ends.specs.Ends.{EndsOf}
use Rattle.matching.specs.Matching.{same_numbers}
use Rattle.ends.specs.Places.{end_at}
use Rattle.language.specs.Syntax.{Boolean}
use Rattle.rules.specs.Tests.{same_antecedent}
use Rattle.matching.specs.Places.{part, ExpressionAt, AnyAt}
use Rattle.compare.specs.Trees.{boolean_at}
use Rattle.compare.proofs.Trees.{tree-at, put-inside}
use Rattle.compare.proofs.Halves.{is-verbatim, consequent-same}
use Rattle.compare.specs.Forms.{antecedent_tree, consequent_numbers, AntecedentAt, ConsequentAt}
use Rattle.matching.specs.declared.cursor.Put.{Put}
use Rattle.compare.specs.declared.antecedent.Antecedent.TheVariants.{And, AndNot, Replaced as Changed}
use Rattle.compare.specs.declared.consequent.Consequent.TheVariants.{Written, Replaced as Exchanged}
use Rattle.sets.specs.Lists.{stands_in}
use Rattle.sets.specs.Items.{Halves, seen_item, pair_item, certain_item, item_halves, written_halves, same_halves, same_written_halves}
use Rattle.sets.specs.Standing.{MemberAt, ViewAt, ItemAt, CanCompare, CanSee}
use Rattle.sets.specs.declared.item.View.{View}
use Rattle.sets.specs.declared.item.View.TheVariants.{AsWritten, Under, Unless, Replaced}
use Rattle.sets.specs.declared.item.FormedMember.{FormedMember}
use Rattle.sets.proofs.Places.{any-known}

-- by view
module _ (ends : List ℕ) (a : ℕ) (view : View) (middle : ℕ) (m : middle ≡ end_at ends a) where
  pub item-written : view ≡ AsWritten → pair_item a middle ≡ seen_item ends view a
  unfolding seen_item
  item-written e = rw (e, m)

  pub item-under : (b : ℕ) → view ≡ Under b →
      ◌≡◌ {A = FormedMember} (record { antecedent = And a b; consequent = Written middle }) (seen_item ends view a)
  unfolding seen_item
  item-under b e = rw (e, m)

  pub item-unless : (b : ℕ) → view ≡ Unless b →
      ◌≡◌ {A = FormedMember} (record { antecedent = AndNot a b; consequent = Written middle }) (seen_item ends view a)
  unfolding seen_item
  item-unless b e = rw (e, m)

  pub item-replaced : (put : Put) → view ≡ Replaced put →
      ◌≡◌ {A = FormedMember} (record { antecedent = Changed a put; consequent = Exchanged middle put }) (seen_item ends view a)
  unfolding seen_item
  item-replaced put e = rw (e, m)

-- a written member compared with an item, consequents first
module _ (file ends : List ℕ) (at : ℕ) (item : FormedMember) (middle : ℕ) (m : middle ≡ end_at ends at) {b : Bool}
    (e : b ≡ same_numbers (part file ends middle) (consequent_numbers file ends item.consequent)) where
  halves-by : (same_antecedent (boolean_at file at) (antecedent_tree file item.antecedent) && b)
      ≡ same_halves (written_halves file ends at) (item_halves file ends item)
  unfolding same_halves item_halves seen_item antecedent_tree consequent_numbers
  halves-by =
      ap (λ x. same_antecedent (boolean_at file at) (antecedent_tree file item.antecedent) && x)
      (e ∙ ap (λ i. same_numbers (part file ends i) (consequent_numbers file ends item.consequent)) m)

  pub item-not : b ≡ false → false ≡ same_halves (written_halves file ends at) (item_halves file ends item)
  item-not h =
      rw (← halves-by, h) (sym (and-false (same_antecedent (boolean_at file at) (antecedent_tree file item.antecedent))))

  pub item-so : {r : Bool} → b ≡ true → r ≡ same_antecedent (boolean_at file at) (antecedent_tree file item.antecedent) →
      r ≡ same_halves (written_halves file ends at) (item_halves file ends item)
  item-so h k = rw (← halves-by, h) (k ∙ sym (and-true _))

-- two written members, by words
module _ {file ends : List ℕ} {at a middle other : ℕ} (x : MemberAt file ends at) (y : MemberAt file ends a)
    (m : middle ≡ end_at ends at) (n : other ≡ end_at ends a) {b : Bool}
    (e : b ≡ same_numbers (part file ends middle) (part file ends other)) where
  words-by : (same_numbers (part file ends at) (part file ends a) && b) ≡ same_written_halves (written_halves file ends at) (written_halves file ends a)
  unfolding same_written_halves item_halves seen_item antecedent_tree consequent_numbers
  words-by =
      ap₂ ◌&&◌
      (consequent-same (tree-at x.antecedent) (is-verbatim (tree-at y.antecedent)))
      (e ∙ ap₂ (λ i j. same_numbers (part file ends i) (part file ends j)) m n)

  pub words-not : b ≡ false → false ≡ same_written_halves (written_halves file ends at) (written_halves file ends a)
  words-not h = rw (← words-by, h) (sym (and-false (same_numbers (part file ends at) (part file ends a))))

  pub words-so : {r : Bool} → b ≡ true → r ≡ same_numbers (part file ends at) (part file ends a) →
      r ≡ same_written_halves (written_halves file ends at) (written_halves file ends a)
  words-so h k = rw (← words-by, h) (k ∙ sym (and-true _))

-- what an item names stands there
module _ {file ends : List ℕ} (o : EndsOf file ends) where
  pub seen-view : {a : ℕ} (view : View) → MemberAt file ends a → ViewAt file ends view → ItemAt file ends (seen_item ends view a)
  unfolding seen_item ViewAt AntecedentAt ConsequentAt
  seen-view AsWritten m v = record { antecedent-at = m.antecedent; consequent-at = any-known o m.consequent }
  seen-view (Under b) m v = record {
    antecedent-at = (m.antecedent, v);
    consequent-at = any-known o m.consequent;
  }
  seen-view (Unless b) m v = record {
    antecedent-at = (m.antecedent, v);
    consequent-at = any-known o m.consequent;
  }
  seen-view (Replaced put) m v = record {
    antecedent-at = (m.antecedent, v);
    consequent-at = record { ends_of = o; any = m.consequent; inside = put-inside v.stands };
  }

  pub seen_at : {a : ℕ} (view : View) {item : FormedMember} → item ≡ seen_item ends view a → MemberAt file ends a →
      ViewAt file ends view → ItemAt file ends item
  seen_at view e m v = subst (ItemAt file ends) (sym e) (seen-view view m v)

  pub written-item : {a : ℕ} {item : FormedMember} → item ≡ seen_item ends AsWritten a → MemberAt file ends a → ItemAt file ends item
  unfolding ViewAt
  written-item e m = seen_at AsWritten e m tt

  pub pair_at : {f b : ℕ} {item : FormedMember} → item ≡ pair_item f b → ExpressionAt file ends Boolean f → AnyAt file ends b → ItemAt file ends item
  unfolding AntecedentAt ConsequentAt
  pair_at e x y =
      subst (ItemAt file ends) (sym e) (record { antecedent-at = x; consequent-at = any-known o y })

  pub certain_at : {b : ℕ} → AnyAt file ends b → ItemAt file ends (certain_item b)
  unfolding AntecedentAt ConsequentAt
  certain_at y = record { antecedent-at = tt; consequent-at = any-known o y }

pub as_they_stand : (file ends : List ℕ) → ViewAt file ends AsWritten
unfolding ViewAt
as_they_stand file ends = tt

pub see : {file ends : List ℕ} {at a : ℕ} {view : View} {item : FormedMember} → CanSee file ends at a view →
    item ≡ seen_item ends view a → CanCompare file ends at item
see {view = view} p e = record {
  ends_of = p.ends_of;
  member = p.member;
  item-at = seen_at p.ends_of view e p.other p.view_at;
}

-- what the functions that compare items say, of an item that is the same
module _ (file ends : List ℕ) {item other : FormedMember} (s : item ≡ other) {b : Bool} where
  pub same-as : (x : Halves) → b ≡ same_halves x (item_halves file ends item) → b ≡ same_halves x (item_halves file ends other)
  same-as x e = rw (← s) e

  pub has-as : (p : List Halves) → b ≡ stands_in (item_halves file ends item) p → b ≡ stands_in (item_halves file ends other) p
  has-as p e = rw (← s) e
