-- Antecedents and consequents compared, by the trees that stand there (document 01, "Rules").
-- Assumes nothing.
--     AntecedentIs, antecedent-same              a form is a tree's; the comparison is `same_antecedent`
--     is-written, is-and, is-and_not, is-split, is-replaced, is_true
--                                                by form
--     ConsequentIs, consequent-same              the same of consequents: `same_consequent`
--     is-verbatim, is-exchanged                     by form
use mathlib.Core.Path.{◌≡◌, refl, sym, ap, ap₂, ◌∙◌}
use mathlib.Core.Bool.{true}
use mathlib.Core.List.{List}
use Prim.Native.Nat.{ℕ}
use Rattle.language.specs.Syntax.{Sort, Boolean, Expr, truth, and, or, neg, Assignment}
use Rattle.rules.specs.Words.{words}
use Rattle.rules.specs.Replace.{Replacement, replacement, replace}
use Rattle.rules.specs.Tests.{same_antecedent, same_consequent}
use Rattle.layout.specs.Nodes.{AllInRange}
use Rattle.ends.specs.Places.{WrittenAt}
use Rattle.matching.specs.Matching.{numbers, exchanged, same_numbers}
use Rattle.compare.specs.Trees.{boolean_at, PutStands, changed}
use Rattle.matching.specs.Places.{part}
use Rattle.compare.specs.Forms.{antecedent_tree, consequent_numbers}
use Rattle.matching.specs.declared.cursor.Put.{Put}
use Rattle.compare.specs.declared.antecedent.Antecedent.{Antecedent}
use Rattle.compare.specs.declared.antecedent.Antecedent.TheVariants.{Written, And, AndNot, Split, Replaced, True}
use Rattle.compare.specs.declared.consequent.Consequent.{Consequent}
use Rattle.compare.specs.declared.consequent.Consequent.TheVariants.{Written as Verbatim, Replaced as Exchanged}
use Rattle.matching.proofs.Numbers.{numbers-tell}
use Rattle.matching.proofs.Replaced.{Replaces, replaces}
use Rattle.matching.proofs.SameNumbers.{numbers-same}
use Rattle.compare.proofs.Trees.{tree_is, part-is, in-range, put_is}

-- an antecedent, a consequent that a rule forms
pub record AntecedentIs (file : List ℕ) (form : Antecedent) (φ : Expr Boolean) : Type 0 where
  pub tree_is : antecedent_tree file form ≡ φ

pub record ConsequentIs (file ends : List ℕ) (form : Consequent) {k : Sort} (e : Expr k) : Type 0 where
  pub numbers-are : consequent_numbers file ends form ≡ numbers (words e)
  pub fits : AllInRange (words e)

pub is_true : {file : List ℕ} → AntecedentIs file True (truth true)
unfolding antecedent_tree
is_true = record { tree_is = refl }

module _ {file ends : List ℕ} where
  pub is-written : {φ : Expr Boolean} {a : ℕ} → WrittenAt file ends φ a → AntecedentIs file (Written a) φ
  unfolding antecedent_tree
  is-written x = record { tree_is = tree_is x }

  module _ {φ β : Expr Boolean} {a b : ℕ} (x : WrittenAt file ends φ a) (y : WrittenAt file ends β b) where
    pub is-and : AntecedentIs file (And a b) (and φ β)
    unfolding antecedent_tree
    is-and = record { tree_is = ap₂ and (tree_is x) (tree_is y) }

    pub is-and_not : AntecedentIs file (AndNot a b) (and φ (neg β))
    unfolding antecedent_tree
    is-and_not = record { tree_is = ap₂ (λ φ β. and φ (neg β)) (tree_is x) (tree_is y) }

  pub is-split : {φ₁ φ₂ β : Expr Boolean} {p q b : ℕ} → WrittenAt file ends φ₁ p → WrittenAt file ends φ₂ q →
      WrittenAt file ends β b → AntecedentIs file (Split p q b) (or (and φ₁ β) (and φ₂ (neg β)))
  unfolding antecedent_tree
  is-split {φ₁} {φ₂} {β} x y z = record { tree_is = ap₂ or (is-and x z).tree_is (is-and_not y z).tree_is }

  pub is-replaced : {put : Put} {a : Assignment} → PutStands file ends put a → {φ : Expr Boolean} {at : ℕ} →
      WrittenAt file ends φ at → AntecedentIs file (Replaced at put) (replace φ (replacement a))
  unfolding antecedent_tree changed
  is-replaced s x = record { tree_is = ap₂ (λ φ a. replace φ (replacement a)) (tree_is x) (put_is s) }

  pub is-verbatim : {k : Sort} {e : Expr k} {a : ℕ} → WrittenAt file ends e a → ConsequentIs file ends (Verbatim a) e
  unfolding consequent_numbers
  is-verbatim x = record { numbers-are = part-is x; fits = in-range x }

  pub is-exchanged : {put : Put} {s : Replacement} → Replaces file put s → {k : Sort} {e : Expr k} {a : ℕ} →
      WrittenAt file ends e a → ConsequentIs file ends (Exchanged a put) (replace e s)
  unfolding consequent_numbers
  is-exchanged {put} r {e = e} x =
      let t = replaces r x.levels e x.stands.fit in
      record { numbers-are = ap (exchanged file put) (part-is x) ∙ sym t.same; fits = t.fit }

  pub antecedent-same : {φ ψ : Expr Boolean} {at : ℕ} {form : Antecedent} → WrittenAt file ends φ at →
      AntecedentIs file form ψ → same_antecedent (boolean_at file at) (antecedent_tree file form) ≡ same_antecedent φ ψ
  antecedent-same x y = ap₂ same_antecedent (tree_is x) y.tree_is

  pub consequent-same : {j k : Sort} {d : Expr j} {e : Expr k} {at : ℕ} {form : Consequent} → WrittenAt file ends d at →
      ConsequentIs file ends form e →
      same_numbers (part file ends at) (consequent_numbers file ends form) ≡ same_consequent d e
  consequent-same {d = d} {e = e} x y =
      ap₂ same_numbers (part-is x) y.numbers-are
      ∙ numbers-same (words d) (words e) (numbers-tell (words d) (words e) (in-range x) y.fits)
