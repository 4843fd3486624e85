-- The tests of `Tests` decide the statements of `Sets`.
-- Assumes nothing.
--     same_word-decides, same_words-decides                                 equality of words
--     same_antecedent-decides, same_consequent-decides, same_member-decides  sameness of the parts of members, of members
--     stands-decides, within-decides, same-decides                        of sets
--     listed-decides                                                      rule 17's "without" is by words
--     unmodified-decides, is_empty-decides                                 no identifier is modified; a list is empty
use mathlib.Core.Path.{◌≡◌, refl, sym, ap₂, subst}
use mathlib.Core.Bool.{Bool, ◌&&◌, ◌||◌}
use mathlib.Core.Logic.{◌⊎◌, inl, inr}
use mathlib.Core.List.{List, [], ◌∷◌, head-eq_of_cons-eq, tail-eq_of_cons-eq, cons≢nil, nil≢cons}
use Prim.Native.Nat.{ℕ}
use lib.IntN.{ℤ}
use Rattle.laws.proofs.Decides.{Decides, decides_map, decides_and, decides_or, decides_yes, decides_no, decides_not}
use Rattle.laws.proofs.Decides.{eqb-decides}
use Rattle.language.specs.Syntax.{Sort, Boolean, Expr, Command}
use Rattle.language.specs.Modifies.{Identifier, modifies}
use Rattle.language.proofs.Integers.{same_integer-decides}
use Rattle.rules.specs.Words.{Word, word, for_word, words, same_word, same_words}
use Rattle.rules.specs.Plain.{plain}
use Rattle.rules.specs.Assertion.{Member, Members}
use Rattle.rules.specs.Sets.{Sameness, SamePlain, SameByWords, SameConsequent, SameMember, StandsIn, stands_here, stands-later}
use Rattle.rules.specs.Sets.{Within, Same, listed, Unmodified}
use Rattle.rules.specs.Tests.{same_antecedent, same_consequent, same_member, stands, within, same}
use Rattle.rules.specs.Tests.{unmodified, is_empty}

-- the two forms of words differ
abbrev IsWord : Word → Type 0
IsWord (word k p) = Unit {0}
IsWord (for_word q m) = ⊥

word≢for_word : {k q m : ℕ} {p : ℤ} → word k p ≡ for_word q m → ⊥
word≢for_word h = subst IsWord h tt

pub same_word-decides : (v w : Word) → Decides (same_word v w) (v ≡ w)
same_word-decides (word j y) (word k z) =
    decides_map (λ h. ap₂ word h.0 h.1) (λ h. (cc, cc)) (decides_and (eqb-decides j k) (same_integer-decides y z))
same_word-decides (word j y) (for_word q m) = decides_no word≢for_word
same_word-decides (for_word q m) (word k z) = decides_no (λ h. word≢for_word (sym h))
same_word-decides (for_word q m) (for_word r n) =
    decides_map (λ h. ap₂ for_word h.0 h.1) (λ h. (cc, cc)) (decides_and (eqb-decides q r) (eqb-decides m n))

pub same_words-decides : (k l : List Word) → Decides (same_words k l) (k ≡ l)
same_words-decides [] [] = decides_yes refl
same_words-decides [] (w ∷ l) = decides_no nil≢cons
same_words-decides (v ∷ k) [] = decides_no cons≢nil
same_words-decides (v ∷ k) (w ∷ l) =
    decides_map
    (λ h. ap₂ ◌∷◌ h.0 h.1)
    (λ h. (head-eq_of_cons-eq h, tail-eq_of_cons-eq h))
    (decides_and (same_word-decides v w) (same_words-decides k l))

pub same_antecedent-decides : (φ ψ : Expr Boolean) → Decides (same_antecedent φ ψ) (SamePlain φ ψ)
same_antecedent-decides φ ψ = same_words-decides (words (plain φ)) (words (plain ψ))

pub same_consequent-decides : {j k : Sort} (d : Expr j) (e : Expr k) →
    Decides (same_consequent d e) (SameConsequent d e)
same_consequent-decides d e = same_words-decides (words d) (words e)

-- by any sameness of antecedents that a test decides
module _ {S : Sameness} where
  member-decides : {a : Bool} (m n : Member) → Decides a (S m.antecedent n.antecedent) →
      Decides (a && same_consequent m.consequent n.consequent) (SameMember S m n)
  member-decides m n d =
      decides_map
      (λ h. record { antecedents = h.0; consequents = h.1 })
      (λ h. (h.antecedents, h.consequents))
      (decides_and d (same_consequent-decides m.consequent n.consequent))

  stands-cases : {m n : Member} {p : Members} → StandsIn S m (n ∷ p) → SameMember S m n ⊎ StandsIn S m p
  stands-cases (stands_here h) = inl h
  stands-cases (stands-later h) = inr h

  here-or_later : {a b : Bool} {m n : Member} {p : Members} → Decides a (SameMember S m n) → Decides b (StandsIn S m p) →
      Decides (a || b) (StandsIn S m (n ∷ p))
  here-or_later d e = decides_map (elim [ inl h ↦ stands_here h | inr h ↦ stands-later h ]) stands-cases (decides_or d e)

pub same_member-decides : (m n : Member) → Decides (same_member m n) (SameMember SamePlain m n)
same_member-decides m n = member-decides m n (same_antecedent-decides m.antecedent n.antecedent)

pub stands-decides : (m : Member) (p : Members) → Decides (stands m p) (StandsIn SamePlain m p)
stands-decides m [] = decides_no (elim [ ])
stands-decides m (n ∷ p) = here-or_later (same_member-decides m n) (stands-decides m p)

-- a member is listed exactly when it stands in the set by words
pub listed-decides : (m : Member) (p : Members) → Decides (listed m p) (StandsIn SameByWords m p)
listed-decides m [] = decides_no (elim [ ])
listed-decides m (n ∷ p) =
    here-or_later (member-decides m n (same_words-decides (words m.antecedent) (words n.antecedent))) (listed-decides m p)

pub within-decides : (p q : Members) → Decides (within p q) (Within SamePlain p q)
within-decides [] q = decides_yes tt
within-decides (m ∷ p) q = decides_and (stands-decides m q) (within-decides p q)

pub same-decides : (p q : Members) → Decides (same p q) (Same SamePlain p q)
same-decides p q =
    decides_map
    (λ h. record { first = h.0; second = h.1 })
    (λ h. (h.first, h.second))
    (decides_and (within-decides p q) (within-decides q p))

pub unmodified-decides : (l : List Identifier) (c : Command) → Decides (unmodified l c) (Unmodified l c)
unmodified-decides [] c = decides_yes tt
unmodified-decides (x ∷ l) c = decides_and (decides_not (modifies c x)) (unmodified-decides l c)

pub is_empty-decides : {A : Type 0} (l : List A) → Decides (is_empty l) (l ≡ [])
is_empty-decides [] = decides_yes refl
is_empty-decides (x ∷ l) = decides_no cons≢nil
