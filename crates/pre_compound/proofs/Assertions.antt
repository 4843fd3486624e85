-- The rules' tests of assertions: each compares an assertion with one that the rule forms.
-- Assumes nothing.
--     can-split, split_at          rule 20
--     can-join, join-at            rule 26
--     right-listed, can-replace, replaced-at
--                                  rules 24 and 25
--     can-true, true-at            rule 29
use mathlib.Core.Path.{◌≡◌, sym, ap, subst, ◌∙◌}
use mathlib.Core.Bool.{Bool}
use mathlib.Core.List.{List}
use Prim.Native.Nat.{ℕ, ◌<◌}
use lib.ListN.{length}
use Rattle.language.specs.Syntax.{Assignment}
use Rattle.rules.specs.Tests.{same_antecedent}
use Rattle.ends.specs.Places.{end_at}
use Rattle.ends.proofs.Places.{node_known}
use Rattle.compare.specs.Trees.{boolean_at, HasPut, PutStands, put-scalar, put-array}
use Rattle.compare.specs.Forms.{antecedent_tree, AntecedentAt, CanAntecedent}
use Rattle.matching.specs.declared.cursor.Put.{Put}
use Rattle.compare.specs.declared.antecedent.Antecedent.{Antecedent}
use Rattle.compare.specs.declared.antecedent.Antecedent.TheVariants.{And, Split, Replaced, True}
use Rattle.compare.proofs.Halves.{is-and, is-split, is-replaced, is_true, antecedent-same}
use Rattle.pre_compound.specs.Conditions.{CanSplit, SplitAt, CanJoin, JoinAt, right_at, CanReplace, ReplacedAt, CanTrue, TrueAt}

-- the answer of a comparison with the assertion that a rule forms
abbrev Answers : List ℕ → ℕ → Antecedent → Bool → Type 0
Answers file f form r = r ≡ same_antecedent (boolean_at file f) (antecedent_tree file form)

module _ {file ends : List ℕ} {f : ℕ} where
  pub can-split : {b p q : ℕ} → CanSplit file ends f b p q → CanAntecedent file ends f (Split p q b)
  unfolding AntecedentAt
  can-split c = record { ends_of = c.ends_of; whole = c.whole; form-at = (c.first, c.second, c.test) }

  pub split_at : {b p q : ℕ} {r : Bool} → Answers file f (Split p q b) r → SplitAt file ends f b p q r
  split_at h = record { is = λ φ t φ₁ φ₂ x y z v. h ∙ antecedent-same x (is-split z v y) }

  pub can-join : {g b : ℕ} → CanJoin file ends f g b → CanAntecedent file ends f (And g b)
  unfolding AntecedentAt
  can-join c = record { ends_of = c.ends_of; whole = c.whole; form-at = (c.first, c.test) }

  pub join-at : {g b : ℕ} {r : Bool} → Answers file f (And g b) r → JoinAt file ends f g b r
  join-at h = record { is = λ φ φ' t x y z. h ∙ antecedent-same x (is-and y z) }

  pub can-true : CanTrue file ends f → CanAntecedent file ends f True
  unfolding AntecedentAt
  can-true p = record { ends_of = p.ends_of; whole = p.whole; form-at = tt }

  pub true-at : {r : Bool} → Answers file f True r → TrueAt file ends f r
  true-at h = record { is = λ φ x. h ∙ antecedent-same x is_true }

-- the words between a and its end are put for the word w
abbrev put_at : ℕ → ℕ → ℕ → Put
put_at w a to = record { word = w; from = a; to = to }

put_is : (ends : List ℕ) (w a : ℕ) {to : ℕ} → to ≡ end_at ends a → right_at ends w a ≡ put_at w a to
put_is ends w a k = ap (put_at w a) (sym k)

-- the right side is in the list of ends
pub right-listed : {file ends : List ℕ} {f g w a : ℕ} → CanReplace file ends f g w a → a < length ends
right-listed {file} {ends} {w = w} {a} c = go c.right.stands
  where
    go : {b : Assignment} → PutStands file ends (right_at ends w a) b → a < length ends
    go (put-scalar r) = (node_known c.ends_of r.there).listed
    go (put-array r) = (node_known c.ends_of r.there).listed

module _ {file ends : List ℕ} {f g a to : ℕ} (w : ℕ) (k : to ≡ end_at ends a) where
  pub can-replace : CanReplace file ends f g w a → CanAntecedent file ends f (Replaced g (put_at w a to))
  unfolding AntecedentAt
  can-replace c = record {
    ends_of = c.ends_of;
    whole = c.whole;
    form-at = (c.replaced, subst (HasPut file ends) (put_is ends w a k) c.right);
  }

  pub replaced-at : {r : Bool} → Answers file f (Replaced g (put_at w a to)) r → ReplacedAt file ends f g w a r
  replaced-at h = record {
    is = λ φ φ' assignment x y s.
        h ∙ antecedent-same x (is-replaced (subst (λ put. PutStands file ends put assignment) (put_is ends w a k) s) y);
  }
