-- Antecedents and consequents as the rules form them (document 01, "Rules"): antecedents as trees, by places; consequents by the
-- numbers of their words.
-- Working: `antecedent-same` and `consequent-same` of proofs/Halves say that comparing these is the rules' `same_antecedent` and
-- `same_consequent` of the trees that stand there. Assumes nothing.
--     antecedent_tree, consequent_numbers    by form
--     AntecedentAt, ConsequentAt           what a form names stands in the file
--     CanCompareTwo, CanComparePlain, CanLeft, CanAntecedent, CanConsequent
--                                          what the functions that compare them ask for
use Rattle.std.specs.Prelude.{◌≡◌, true, List, ℕ, ◌+◌, ◌<◌, length, get_or}
use Rattle.language.specs.Syntax.{Boolean, Expr, truth, and, or, neg}
use Rattle.layout.specs.Bytes.{word_of}
use Rattle.matching.specs.Matching.{exchanged}
use Rattle.ends.specs.Ends.{EndsOf}
use Rattle.ends.specs.Places.{end_at, PartKnown}
use Rattle.matching.specs.Places.{part, ExpressionAt, CanMatchAny}
use Rattle.compare.specs.Trees.{boolean_at, HasPut, changed, ChangeAt}
use Rattle.compare.specs.Plain.{FirstOther}
use Rattle.compare.specs.declared.plain.Change.{Change}
use Rattle.compare.specs.declared.plain.Change.TheVariants.{Replaced as With}
use Rattle.compare.specs.declared.antecedent.Antecedent.{Antecedent}
use Rattle.compare.specs.declared.antecedent.Antecedent.TheVariants.{Written, And, AndNot, Split, Replaced, True}
use Rattle.compare.specs.declared.consequent.Consequent.{Consequent}
use Rattle.compare.specs.declared.consequent.Consequent.TheVariants.{Written as Verbatim, Replaced as Exchanged}

module _ (file : List ℕ) where
  unfoldable pub antecedent_tree : Antecedent → Expr Boolean
  antecedent_tree (Written a) = boolean_at file a
  antecedent_tree (And a b) = and (boolean_at file a) (boolean_at file b)
  antecedent_tree (AndNot a b) = and (boolean_at file a) (neg (boolean_at file b))
  antecedent_tree (Split p q b) =
      or (and (boolean_at file p) (boolean_at file b)) (and (boolean_at file q) (neg (boolean_at file b)))
  antecedent_tree (Replaced a put) = changed file (With put) (boolean_at file a)
  antecedent_tree True = truth true

module _ (file ends : List ℕ) where
  unfoldable pub consequent_numbers : Consequent → List ℕ
  consequent_numbers (Verbatim a) = part file ends a
  consequent_numbers (Exchanged a put) = exchanged file put (part file ends a)

  abbrev BooleanAt : ℕ → Type 0
  BooleanAt at = ExpressionAt file ends Boolean at

  unfoldable pub AntecedentAt : Antecedent → Type 0
  AntecedentAt (Written a) = BooleanAt a
  AntecedentAt (And a b) = BooleanAt a × BooleanAt b
  AntecedentAt (AndNot a b) = BooleanAt a × BooleanAt b
  AntecedentAt (Split p q b) = BooleanAt p × BooleanAt q × BooleanAt b
  AntecedentAt (Replaced a put) = BooleanAt a × HasPut file ends put
  AntecedentAt True = Unit {0}

  unfoldable pub ConsequentAt : Consequent → Type 0
  ConsequentAt (Verbatim a) = PartKnown file ends a
  ConsequentAt (Exchanged a put) = CanMatchAny file ends a put

  -- two booleans, the second with what is put for an identifier
  pub record CanCompareTwo (f g : ℕ) (change : Change) : Type 0 where
    pub ends_of : EndsOf file ends
    pub first : BooleanAt f
    pub second : BooleanAt g
    pub change-at : ChangeAt file ends change

  -- the same, with their first words that are neither and nor true
  pub record CanComparePlain (f p g q : ℕ) (change : Change) : Type 0 where
    pub two : CanCompareTwo f g change
    pub first-other : FirstOther file f (end_at ends f) p
    pub second-other : FirstOther file g (end_at ends g) q

  -- the left side of what starts at s; p is known of an and
  pub record CanLeft (s p : ℕ) : Type 0 where
    pub ends_of : EndsOf file ends
    pub inside : s < length file
    pub operand : BooleanAt (s + 1)
    pub known : get_or file s 0 ≡ word_of 10 0 → FirstOther file (s + 1) (end_at ends (s + 1)) p

  pub record CanAntecedent (at : ℕ) (form : Antecedent) : Type 0 where
    pub ends_of : EndsOf file ends
    pub whole : BooleanAt at
    pub form-at : AntecedentAt form

  pub record CanConsequent (at : ℕ) (form : Consequent) : Type 0 where
    pub whole : PartKnown file ends at
    pub form-at : ConsequentAt form
