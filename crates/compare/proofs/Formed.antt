-- Booleans compared with those that the rules form: φ ∧ B, φ ∧ ¬B, ¬B and (φ1 ∧ B) ∨ (φ2 ∧ ¬B).
-- Assumes nothing.
--     two-written, two-replaced, can-true, with_and, with_and_not, with_split
--                                                         what the functions ask for
--     of-written .. of-replaced                           what a form names stands there
--     and_first, and_second                               a side is true
--     and_left, and_right, and-other, and_no, and-on, not-true_not
--                                                         no side is: the operands of an and; what is answered; ¬B is never true
--     not-operand, not-other, not_on                      of a not
--     or_left, or_right, or-other, or_no, or-on           of an or
--     by_written .. by-true, unchanged                    by form; with nothing put for an identifier
use mathlib.Core.Path.{◌≡◌, refl, sym, ap, subst, ◌∙◌}
use mathlib.Core.Bool.{Bool, true, false}
use mathlib.Core.List.{List}
use Prim.Native.Nat.{ℕ, ◌+◌}
use native.Mathlib.Omega.{arith}
use lib.ListN.{get_or}
use Rattle.language.specs.Syntax.{Boolean, Expr, truth, and, or, neg}
use Rattle.rules.specs.Plain.{is_true, plain}
use Rattle.rules.specs.Tests.{same_antecedent}
use Rattle.layout.specs.Bytes.{word_of, kind_at}
use Rattle.ends.specs.Ends.{EndsOf}
use Rattle.ends.specs.Places.{end_at}
use Rattle.matching.specs.Places.{ExpressionAt}
use Rattle.compare.specs.Trees.{boolean_at, HasPut, changed, ChangeAt}
use Rattle.compare.specs.Forms.{antecedent_tree, AntecedentAt, CanCompareTwo, CanAntecedent}
use Rattle.matching.specs.declared.cursor.Put.{Put}
use Rattle.compare.specs.declared.plain.Change.TheVariants.{Unchanged, Replaced as With}
use Rattle.compare.specs.declared.antecedent.Antecedent.{Antecedent}
use Rattle.compare.specs.declared.antecedent.Antecedent.TheVariants.{Written, And, AndNot, Split, Replaced, True}
use Rattle.compare.specs.Plain.{PlainFrom}
use Rattle.compare.proofs.PlainForms.{and_parts, or_parts, not-part, top-other, two-no, two-on, one_on}
use Rattle.compare.proofs.PlainTests.{top, and-inj}
use Rattle.compare.proofs.PlainTests.{or-inj, antecedent-by, told_true, told_other, and_left-true, and_right-true, and-neither}

abbrev BooleanAt : List ℕ → List ℕ → ℕ → Type 0
BooleanAt file ends f = ExpressionAt file ends Boolean f

-- what a form names stands there
module _ {file ends : List ℕ} {form : Antecedent} (p : AntecedentAt file ends form) where
  pub of-written : {a : ℕ} → form ≡ Written a → BooleanAt file ends a
  unfolding AntecedentAt
  of-written e = rw e at p

  pub of_and : {a b : ℕ} → form ≡ And a b → BooleanAt file ends a × BooleanAt file ends b
  unfolding AntecedentAt
  of_and e = rw e at p

  pub of_and-not : {a b : ℕ} → form ≡ AndNot a b → BooleanAt file ends a × BooleanAt file ends b
  unfolding AntecedentAt
  of_and-not e = rw e at p

  pub of-split : {a b c : ℕ} → form ≡ Split a b c → BooleanAt file ends a × BooleanAt file ends b × BooleanAt file ends c
  unfolding AntecedentAt
  of-split e = rw e at p

  pub of-replaced : {a : ℕ} {put : Put} → form ≡ Replaced a put → BooleanAt file ends a × HasPut file ends put
  unfolding AntecedentAt
  of-replaced e = rw e at p

-- by form
abbrev AnswersAs : List ℕ → ℕ → Bool → Expr Boolean → Type 0
AnswersAs file f r φ = r ≡ same_antecedent (boolean_at file f) φ

module _ (file : List ℕ) (f : ℕ) (form : Antecedent) {r : Bool} where
  pub by_written : (a : ℕ) → form ≡ Written a → AnswersAs file f r (boolean_at file a) → AnswersAs file f r (antecedent_tree file form)
  unfolding antecedent_tree
  by_written a e h = rw e h

  pub by_and : (a b : ℕ) → form ≡ And a b → AnswersAs file f r (and (boolean_at file a) (boolean_at file b)) → AnswersAs file f r (antecedent_tree file form)
  unfolding antecedent_tree
  by_and a b e h = rw e h

  pub by_and-not : (a b : ℕ) → form ≡ AndNot a b → AnswersAs file f r (and (boolean_at file a) (neg (boolean_at file b))) →
      AnswersAs file f r (antecedent_tree file form)
  unfolding antecedent_tree
  by_and-not a b e h = rw e h

  pub by-split : (p q b : ℕ) → form ≡ Split p q b →
      AnswersAs file f r (or (and (boolean_at file p) (boolean_at file b)) (and (boolean_at file q) (neg (boolean_at file b)))) →
      AnswersAs file f r (antecedent_tree file form)
  unfolding antecedent_tree
  by-split p q b e h = rw e h

  pub by-replaced : (a : ℕ) (put : Put) → form ≡ Replaced a put → AnswersAs file f r (changed file (With put) (boolean_at file a)) →
      AnswersAs file f r (antecedent_tree file form)
  unfolding antecedent_tree
  by-replaced a put e h = rw e h

  pub by-true : form ≡ True → AnswersAs file f r (truth true) → AnswersAs file f r (antecedent_tree file form)
  unfolding antecedent_tree
  by-true e h = rw e h

pub unchanged : (file : List ℕ) (f a : ℕ) {r : Bool} → AnswersAs file f r (changed file Unchanged (boolean_at file a)) → AnswersAs file f r (boolean_at file a)
unfolding changed
unchanged file f a h = h

module _ {file ends : List ℕ} (o : EndsOf file ends) where
  abbrev boolean : ℕ → Expr Boolean
  boolean f = boolean_at file f

  -- what the functions ask for
  pub two-written : {f g : ℕ} → BooleanAt file ends f → BooleanAt file ends g → CanCompareTwo file ends f g Unchanged
  unfolding ChangeAt
  two-written x y = record { ends_of = o; first = x; second = y; change-at = tt }

  pub two-replaced : {f g : ℕ} {put : Put} → BooleanAt file ends f → BooleanAt file ends g → HasPut file ends put → CanCompareTwo file ends f g (With put)
  unfolding ChangeAt
  two-replaced x y c = record { ends_of = o; first = x; second = y; change-at = c }

  pub can-true : {f : ℕ} → BooleanAt file ends f → CanAntecedent file ends f True
  unfolding AntecedentAt
  can-true x = record { ends_of = o; whole = x; form-at = tt }

  pub with_and : {f a b : ℕ} → BooleanAt file ends f → BooleanAt file ends a → BooleanAt file ends b → CanAntecedent file ends f (And a b)
  unfolding AntecedentAt
  with_and x y z = record { ends_of = o; whole = x; form-at = (y, z) }

  pub with_and_not : {f a b : ℕ} → BooleanAt file ends f → BooleanAt file ends a → BooleanAt file ends b → CanAntecedent file ends f (AndNot a b)
  unfolding AntecedentAt
  with_and_not x y z = record { ends_of = o; whole = x; form-at = (y, z) }

  pub with_split : {f p q b : ℕ} → BooleanAt file ends f → BooleanAt file ends p × BooleanAt file ends q × BooleanAt file ends b →
      CanAntecedent file ends f (Split p q b)
  unfolding AntecedentAt
  with_split x y = record { ends_of = o; whole = x; form-at = y }

  -- a side is true
  module _ (f : ℕ) (β γ : Expr Boolean) {r : Bool} (d : r ≡ same_antecedent β (truth true)) {v : Bool} where
    pub and_first : r ≡ true → v ≡ same_antecedent (boolean f) γ → v ≡ same_antecedent (boolean f) (and β γ)
    and_first h k = k ∙ sym (antecedent-by (boolean f) (and β γ) γ (and_left-true β γ (told_true β d h)))

    pub and_second : {s : Bool} → r ≡ false → s ≡ same_antecedent γ (truth true) → s ≡ true →
        v ≡ same_antecedent (boolean f) β → v ≡ same_antecedent (boolean f) (and β γ)
    and_second h e i k =
        k ∙ sym (antecedent-by (boolean f) (and β γ) β (and_right-true β γ (told_other β d h) (told_true γ e i)))

  moved : {i j : ℕ} → j ≡ i → BooleanAt file ends i → BooleanAt file ends j
  moved e x = subst (BooleanAt file ends) (sym e) x

  module _ {f s : ℕ} (x : PlainFrom file ends f s) where
    -- an and
    module _ (w : get_or file s 0 ≡ word_of 10 0) where
      is-and : kind_at file s ≡ 10
      is-and = omega (arith, w)

      pub and_left : BooleanAt file ends (s + 1)
      and_left = (and_parts o x is-and).left

      pub and_right : {p : ℕ} → p ≡ end_at ends (s + 1) → BooleanAt file ends p
      and_right e = moved e (and_parts o x is-and).right

    module _ (β γ : Expr Boolean) (h : is_true (plain β) ≡ false) (k : is_true (plain γ) ≡ false) where
      formed : plain (and β γ) ≡ and (plain β) (plain γ)
      formed = and-neither β γ h k

      pub and-other : (get_or file s 0 ≡ word_of 10 0 → ⊥) → false ≡ same_antecedent (boolean f) (and β γ)
      and-other n = top-other o x (and β γ) (ap top formed) n

      module _ (w : get_or file s 0 ≡ word_of 10 0) {r : Bool} (d : r ≡ same_antecedent (boolean (s + 1)) β) where
        pub and_no : r ≡ false → false ≡ same_antecedent (boolean f) (and β γ)
        and_no i = two-no o and-inj (and_parts o x (is-and w)) (and β γ) β γ formed d i

        pub and-on : {p : ℕ} {v : Bool} → r ≡ true → p ≡ end_at ends (s + 1) → v ≡ same_antecedent (boolean p) γ →
            v ≡ same_antecedent (boolean f) (and β γ)
        and-on i e j =
            two-on o and-inj (and_parts o x (is-and w)) (and β γ) β γ formed d i
            (j ∙ ap (λ p. same_antecedent (boolean p) γ) e)

    -- an or
    module _ (w : get_or file s 0 ≡ word_of 11 0) where
      is-or : kind_at file s ≡ 11
      is-or = omega (arith, w)

      pub or_left : BooleanAt file ends (s + 1)
      or_left = (or_parts o x is-or).left

      pub or_right : {p : ℕ} → p ≡ end_at ends (s + 1) → BooleanAt file ends p
      or_right e = moved e (or_parts o x is-or).right

    module _ (β γ : Expr Boolean) where
      pub or-other : (get_or file s 0 ≡ word_of 11 0 → ⊥) → false ≡ same_antecedent (boolean f) (or β γ)
      unfolding plain
      or-other n = top-other o x (or β γ) refl n

      module _ (w : get_or file s 0 ≡ word_of 11 0) {r : Bool} (d : r ≡ same_antecedent (boolean (s + 1)) β) where
        pub or_no : r ≡ false → false ≡ same_antecedent (boolean f) (or β γ)
        unfolding plain
        or_no i = two-no o or-inj (or_parts o x (is-or w)) (or β γ) β γ refl d i

        pub or-on : {p : ℕ} {v : Bool} → r ≡ true → p ≡ end_at ends (s + 1) → v ≡ same_antecedent (boolean p) γ →
            v ≡ same_antecedent (boolean f) (or β γ)
        unfolding plain
        or-on i e j =
            two-on o or-inj (or_parts o x (is-or w)) (or β γ) β γ refl d i (j ∙ ap (λ p. same_antecedent (boolean p) γ) e)

    -- a not
    pub not-operand : get_or file s 0 ≡ word_of 12 0 → BooleanAt file ends (s + 1)
    not-operand w = (not-part o x (omega (arith, w))).operand

    module _ (β : Expr Boolean) where
      pub not-other : (get_or file s 0 ≡ word_of 12 0 → ⊥) → false ≡ same_antecedent (boolean f) (neg β)
      unfolding plain
      not-other n = top-other o x (neg β) refl n

      pub not_on : {r : Bool} → get_or file s 0 ≡ word_of 12 0 → r ≡ same_antecedent (boolean (s + 1)) β → r ≡ same_antecedent (boolean f) (neg β)
      unfolding plain
      not_on w d = one_on o (not-part o x (omega (arith, w))) (neg β) β refl d

-- a not is never true
pub not-true_not : (β : Expr Boolean) → is_true (plain (neg β)) ≡ false
unfolding plain
not-true_not β = refl
