-- Sets compared and made (document 01, "Language" and "Rules"; document 02, request [2]).
-- Trusted. Assumes nothing.
--     Sameness                      which antecedents, and assertions of rules 20 to 32, are the same
--     SamePlain, SameByWords        those of one plain form, as the rules have it; those of the same words, as before request [2]
--     SameConsequent                consequents compared
--     SameMember                    members compared: both
--     StandsIn, Within, Same        a member stands in a set; each of a set does; two sets are the same
--     under                         a set under B
--     listed, without               a member is listed, by words; T without S' (rule 17)
--     operands                      φ ⇒ each operand (rule 19)
--     set_identifiers, Unmodified    the identifiers of a set; no identifier is modified
use Rattle.std.specs.Prelude.{◌≡◌, Bool, false, ◌&&◌, ◌||◌, cond, List, [], ◌∷◌, ◌++◌}
use Rattle.std.proofs.Math.Option.{Option, none, some}
use Rattle.language.specs.Syntax.{Sort, Boolean, Expr, constant, scalar, operation, select, compare, truth, and, or}
use Rattle.language.specs.Syntax.{neg, array, zeros, update, Command}
use Rattle.language.specs.Modifies.{Identifier, modifies, identifiers}
use Rattle.rules.specs.Words.{words, same_words}
use Rattle.rules.specs.Plain.{plain}
use Rattle.rules.specs.Assertion.{Member, Members, member}

abbrev pub Sameness : Type 1
Sameness = Expr Boolean → Expr Boolean → Type 0

-- request [2]: antecedents and assertions are compared by the words of their plain forms
abbrev pub SamePlain : Sameness
SamePlain φ ψ = words (plain φ) ≡ words (plain ψ)

-- before request [2] they were compared by words
abbrev pub SameByWords : Sameness
SameByWords φ ψ = words φ ≡ words ψ

-- consequents are compared by words
abbrev pub SameConsequent : {j k : Sort} → Expr j → Expr k → Type 0
SameConsequent d e = words d ≡ words e

-- members and sets, by a sameness of antecedents
module _ (SameAntecedent : Sameness) where
  pub record SameMember (m n : Member) : Type 0 where
    pub antecedents : SameAntecedent m.antecedent n.antecedent
    pub consequents : SameConsequent m.consequent n.consequent

  pub data StandsIn (m : Member) : Members → Type 0 where
    stands_here : {n : Member} {p : Members} → SameMember m n → StandsIn m (n ∷ p)
    stands-later : {n : Member} {p : Members} → StandsIn m p → StandsIn m (n ∷ p)

  abbrev pub Within : Members → Members → Type 0
  Within [] q = Unit {0}
  Within (m ∷ p) q = StandsIn m q × Within p q

  -- each member of one stands in the other
  pub record Same (p q : Members) : Type 0 where
    pub first : Within p q
    pub second : Within q p

-- φ made φ ∧ B
abbrev pub under : Members → Expr Boolean → Members
under [] b = []
under (m ∷ p) b = member (and m.antecedent b) m.consequent ∷ under p b

-- whether a member is listed in the set of rule 17's "without": both halves by words (request [2])
abbrev pub listed : Member → Members → Bool
listed m [] = false
listed m (n ∷ p) =
    (same_words (words m.antecedent) (words n.antecedent)
    && same_words (words m.consequent) (words n.consequent))
    || listed m p

abbrev pub without : Members → Members → Members
without [] q = []
without (m ∷ p) q = cond (listed m q) (without p q) (m ∷ without p q)

-- φ ⇒ each operand of an expression of kind 3, 8, 10, 11 or 12
abbrev pub operands : {k : Sort} → Expr Boolean → Expr k → Option Members
operands φ (constant z) = none
operands φ (scalar x) = none
operands φ (operation o a b) = some (member φ a ∷ (member φ b ∷ []))
operands φ (select h i) = none
operands φ (compare r a b) = some (member φ a ∷ (member φ b ∷ []))
operands φ (truth t) = none
operands φ (and b c) = some (member φ b ∷ (member φ c ∷ []))
operands φ (or b c) = some (member φ b ∷ (member φ c ∷ []))
operands φ (neg b) = some (member φ b ∷ [])
operands φ (array a) = none
operands φ zeros = none
operands φ (update h i a) = none

-- the identifiers of a set
unfoldable pub set_identifiers : Members → List Identifier
set_identifiers [] = []
set_identifiers (m ∷ p) = identifiers m.antecedent ++ (identifiers m.consequent ++ set_identifiers p)

-- the command modifies none of the identifiers
abbrev pub Unmodified : List Identifier → Command → Type 0
Unmodified [] c = Unit {0}
Unmodified (x ∷ l) c = (modifies c x ≡ false) × Unmodified l c
