-- Members as the rules make them (document 01, "Rules"), in two halves: their antecedents as trees, their
-- consequents by numbers.
-- Working: `written-shows`, `under-shows`, `unless-shows` and `replaced-shows` of proofs/Trees say that they are those of
-- the members that the rules name, `stands-numbers` and `listed-numbers` of proofs/Tests that the two tests are the rules'. Assumes
-- nothing.
--     past_member                          the place past the member that starts at a place
--     seen_item, pair_item, certain_item     a member seen as a view says; φ ⇒ E by two places; true ⇒ E
--     Halves, item_halves                  an antecedent, and the numbers of a consequent; an item's
--     seen_as, written_halves               those of a member seen as a view says; as it stands
--     same_halves, same_written_halves             antecedents compared by plain forms, consequents by words; both by words (rule 17)
use Rattle.std.specs.Prelude.{Bool, ◌&&◌, List, ℕ}
use Rattle.language.specs.Syntax.{Boolean, Expr}
use Rattle.rules.specs.Words.{words, same_words}
use Rattle.rules.specs.Tests.{same_antecedent}
use Rattle.matching.specs.Matching.{same_numbers}
use Rattle.ends.specs.Places.{end_at}
use Rattle.compare.specs.Forms.{antecedent_tree, consequent_numbers}
use Rattle.compare.specs.declared.antecedent.Antecedent.TheVariants.{Written as Alone, And, AndNot, Replaced as Changed, True}
use Rattle.compare.specs.declared.consequent.Consequent.TheVariants.{Written, Replaced as Exchanged}
use Rattle.sets.specs.declared.item.View.{View}
use Rattle.sets.specs.declared.item.View.TheVariants.{AsWritten, Under, Unless, Replaced}
use Rattle.sets.specs.declared.item.FormedMember.{FormedMember}

abbrev pub past_member : List ℕ → ℕ → ℕ
past_member ends at = end_at ends (end_at ends at)

unfoldable pub seen_item : List ℕ → View → ℕ → FormedMember
seen_item ends AsWritten a = record { antecedent = Alone a; consequent = Written (end_at ends a) }
seen_item ends (Under b) a = record { antecedent = And a b; consequent = Written (end_at ends a) }
seen_item ends (Unless b) a = record { antecedent = AndNot a b; consequent = Written (end_at ends a) }
seen_item ends (Replaced put) a = record { antecedent = Changed a put; consequent = Exchanged (end_at ends a) put }

abbrev pub pair_item : ℕ → ℕ → FormedMember
pair_item f b = record { antecedent = Alone f; consequent = Written b }

abbrev pub certain_item : ℕ → FormedMember
certain_item b = record { antecedent = True; consequent = Written b }

pub record Halves : Type 0 where
  pub left : Expr Boolean
  pub right : List ℕ

module _ (file ends : List ℕ) where
  unfoldable pub item_halves : FormedMember → Halves
  item_halves item =
      record { left = antecedent_tree file item.antecedent; right = consequent_numbers file ends item.consequent }

  abbrev pub seen_as : View → ℕ → Halves
  seen_as view a = item_halves (seen_item ends view a)

  abbrev pub written_halves : ℕ → Halves
  written_halves a = seen_as AsWritten a

unfoldable pub same_halves : Halves → Halves → Bool
same_halves x y = same_antecedent x.left y.left && same_numbers x.right y.right

unfoldable pub same_written_halves : Halves → Halves → Bool
same_written_halves x y = same_words (words x.left) (words y.left) && same_numbers x.right y.right
