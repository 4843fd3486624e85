-- Laws of the comparison of booleans by their plain forms, on trees.
-- Assumes nothing.
--     plain-answer, plain-told, words-told     the test decides equality of plain forms; the test by words that of trees
--     top, top-settled                         the number of a boolean's first word; that of a plain form, where nothing is dropped
--     changed-plain .. changed-neg             a boolean with what is put for an identifier, by form
--     and-inj, or-inj, neg_inj, truth-same     connectives
--     antecedent-by                            compared with a boolean that has the same plain form
--     told_true, told_other, and_left-true, and_right-true, and-neither
--                                              whether a plain form is true; an and by its sides
use mathlib.Core.Path.{◌≡◌, refl, sym, ap, ap₂, subst, ◌∙◌}
use mathlib.Core.Bool.{Bool, true, false, cond}
use mathlib.Core.List.{List}
use Prim.Native.Nat.{ℕ}
use native.Mathlib.Omega.{arith}
use lib.ListN.{get_or}
use Rattle.laws.proofs.Bools.{clash}
use Rattle.laws.proofs.Decides.{Decides, decides_same, decides_map}
use Rattle.language.specs.Syntax.{Boolean, Expr, compare, truth, and, or, neg}
use Rattle.rules.specs.Words.{words, same_words}
use Rattle.rules.specs.Plain.{is_true, plain}
use Rattle.rules.specs.Replace.{replace}
use Rattle.rules.specs.Tests.{same_antecedent, same_consequent}
use Rattle.rules.proofs.Unique.{expression-unique}
use Rattle.rules.proofs.Plain.{is_true_lem, plain-replace}
use Rattle.rules.proofs.Decides.{same_antecedent-decides, same_consequent-decides}
use Rattle.layout.specs.Spelling.{encode}
use Rattle.layout.specs.Nodes.{expression_node, head_of}
use Rattle.ends.specs.Places.{WrittenAt}
use Rattle.compare.specs.Plain.{Settled}
use Rattle.compare.specs.Trees.{changed}
use Rattle.compare.specs.declared.plain.Change.{Change}
use Rattle.compare.specs.declared.plain.Change.TheVariants.{Unchanged, Replaced}

-- ---- the test
same-decides : (φ ψ : Expr Boolean) → Decides (same_antecedent φ ψ) (plain φ ≡ plain ψ)
same-decides φ ψ =
    decides_map (expression-unique (plain φ) (plain ψ)) (λ e. ap words e) (same_antecedent-decides φ ψ)

pub plain-answer : {r : Bool} (φ ψ : Expr Boolean) → Decides r (plain φ ≡ plain ψ) → r ≡ same_antecedent φ ψ
plain-answer {r} φ ψ d = decides_same r (same_antecedent φ ψ) d (same-decides φ ψ)

pub plain-told : {r : Bool} (φ ψ : Expr Boolean) → r ≡ same_antecedent φ ψ → Decides r (plain φ ≡ plain ψ)
plain-told φ ψ e = subst (λ r. Decides r (plain φ ≡ plain ψ)) (sym e) (same-decides φ ψ)

pub words-told : {r : Bool} (φ ψ : Expr Boolean) → r ≡ same_consequent φ ψ → Decides r (φ ≡ ψ)
words-told φ ψ e =
    subst (λ r. Decides r (φ ≡ ψ)) (sym e)
    (decides_map (expression-unique φ ψ) (λ e. ap words e) (same_consequent-decides φ ψ))

-- ---- first words
abbrev pub top : Expr Boolean → ℕ
top φ = encode (head_of (expression_node φ))

pub top-settled : {file ends : List ℕ} (ψ : Expr Boolean) {at : ℕ} → Settled ψ → WrittenAt file ends ψ at → get_or file at 0 ≡ top (plain ψ)
unfolding plain words
top-settled (compare r a b) s x = x.stands.stand.1
top-settled (truth t) s x = x.stands.stand.1
top-settled (and b c) s x =
    x.stands.stand.1
    ∙ sym (ap₂ (λ t u. top (cond t (plain c) (cond u (plain b) (and (plain b) (plain c))))) s.0 s.1)
top-settled (or b c) s x = x.stands.stand.1
top-settled (neg b) s x = x.stands.stand.1

-- ---- what is put for an identifier
module _ (file : List ℕ) where
  pub changed-plain : (change : Change) (φ : Expr Boolean) → plain (changed file change φ) ≡ changed file change (plain φ)
  unfolding changed
  changed-plain Unchanged φ = refl
  changed-plain (Replaced put) φ = plain-replace _ φ

  pub changed-top : (change : Change) (φ : Expr Boolean) → top (changed file change φ) ≡ top φ
  unfolding changed replace
  changed-top Unchanged φ = refl
  changed-top (Replaced put) (compare r a b) = refl
  changed-top (Replaced put) (truth t) = refl
  changed-top (Replaced put) (and b c) = refl
  changed-top (Replaced put) (or b c) = refl
  changed-top (Replaced put) (neg b) = refl

  pub changed-truth : (change : Change) (t : Bool) → changed file change (truth t) ≡ truth t
  unfolding changed replace
  changed-truth Unchanged t = refl
  changed-truth (Replaced put) t = refl

  pub changed-and : (change : Change) (b c : Expr Boolean) →
      changed file change (and b c) ≡ and (changed file change b) (changed file change c)
  unfolding changed replace
  changed-and Unchanged b c = refl
  changed-and (Replaced put) b c = refl

  pub changed-or : (change : Change) (b c : Expr Boolean) →
      changed file change (or b c) ≡ or (changed file change b) (changed file change c)
  unfolding changed replace
  changed-or Unchanged b c = refl
  changed-or (Replaced put) b c = refl

  pub changed-neg : (change : Change) (b : Expr Boolean) → changed file change (neg b) ≡ neg (changed file change b)
  unfolding changed replace
  changed-neg Unchanged b = refl
  changed-neg (Replaced put) b = refl

-- ---- connectives
pub and-inj : (b c b' c' : Expr Boolean) → and b c ≡ and b' c' → (b ≡ b') × (c ≡ c')
and-inj b c b' c' h = (cc, cc)

pub or-inj : (b c b' c' : Expr Boolean) → or b c ≡ or b' c' → (b ≡ b') × (c ≡ c')
or-inj b c b' c' h = (cc, cc)

pub neg_inj : {b b' : Expr Boolean} → neg b ≡ neg b' → b ≡ b'
neg_inj h = cc

pub truth-same : (t u : Bool) → top (truth t) ≡ top (truth u) → t ≡ u
truth-same true true h = refl
truth-same true false h = absurd (omega arith)
truth-same false true h = absurd (omega arith)
truth-same false false h = refl

-- ---- an and by its sides
pub antecedent-by : (φ ψ χ : Expr Boolean) → plain ψ ≡ plain χ → same_antecedent φ ψ ≡ same_antecedent φ χ
antecedent-by φ ψ χ e = ap (λ p. same_words (words (plain φ)) (words p)) e

module _ (b : Expr Boolean) {r : Bool} (e : r ≡ same_antecedent b (truth true)) where
  pub told_true : r ≡ true → is_true (plain b) ≡ true
  unfolding plain
  told_true h = ap is_true ((plain-told b (truth true) e).sound h)

  pub told_other : r ≡ false → is_true (plain b) ≡ false
  unfolding plain
  told_other h = go (is_true (plain b)) refl
    where
      go : (t : Bool) → is_true (plain b) ≡ t → is_true (plain b) ≡ false
      go true k = clash ((plain-told b (truth true) e).complete (is_true_lem (plain b) k)) h
      go false k = k

module _ (b c : Expr Boolean) where
  pub and_left-true : is_true (plain b) ≡ true → plain (and b c) ≡ plain c
  unfolding plain
  and_left-true h = ap (λ t. cond t (plain c) (cond (is_true (plain c)) (plain b) (and (plain b) (plain c)))) h

  module _ (h : is_true (plain b) ≡ false) where
    pub and_right-true : is_true (plain c) ≡ true → plain (and b c) ≡ plain b
    unfolding plain
    and_right-true k = ap₂ (λ t u. cond t (plain c) (cond u (plain b) (and (plain b) (plain c)))) h k

    pub and-neither : is_true (plain c) ≡ false → plain (and b c) ≡ and (plain b) (plain c)
    unfolding plain
    and-neither k = ap₂ (λ t u. cond t (plain c) (cond u (plain b) (and (plain b) (plain c)))) h k
