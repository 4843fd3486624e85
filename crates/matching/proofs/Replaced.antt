-- The numbers of an expression with another in the place of an identifier (document 01, rules 3, 4, 24, 25): those of the
-- expression, with the other's in the place of the identifier's word.
-- Assumes nothing.
--     Replaces                           what is put for words stands for the identifiers' replacement
--     WordsExchanged, both, replaces     words with what is put for them; those of a replaced expression
--     scalar-replaces, array-replaces    of a scalar, of an array
use mathlib.Core.Path.{◌≡◌, refl, sym, ap, ap₂, ◌∙◌}
use mathlib.Core.Bool.{Bool, true, false, cond}
use mathlib.Core.List.{List, [], ◌∷◌, ◌++◌, append-nil}
use Prim.Native.Nat.{ℕ, zero, suc, ◌+◌, ◌*◌, ◌≤◌}
use native.Mathlib.Omega.{arith}
use borrow.Author.Tests.{eqb-true, eqb-false, eq-eqb, ne_eqb}
use lib.Dec.{eqb}
use lib.IntN.{ℤ, pos}
use Rattle.language.specs.Syntax.{Sort, Arithmetic, Array, Expr, constant, scalar, operation, select}
use Rattle.language.specs.Syntax.{compare, truth, and, or, neg, array, zeros, update, to_scalar, to_array}
use Rattle.rules.specs.Words.{Word, word, words, operator_payload, comparison_payload, truth_payload}
use Rattle.rules.specs.Replace.{Replacement, replacement, replace}
use Rattle.layout.specs.Spelling.{encode, FitsExpression}
use Rattle.layout.specs.Nodes.{InRange, AllInRange}
use Rattle.layout.proofs.Nodes.{content-small, in_range-append, constant-range, operator_range, comparison_range, truth-range}
use Rattle.layout.specs.Bytes.{payloads}
use Rattle.matching.specs.Matching.{between, numbers, put_for, exchanged}
use Rattle.matching.specs.declared.cursor.Put.{Put}
use Rattle.matching.proofs.Exchange.{exchanged-append}
use Rattle.matching.proofs.Numbers.{numbers-append}

-- identifiers have their replacement's numbers, and no other word is replaced
pub record Replaces (file : List ℕ) (put : Put) (f : Replacement) : Type 0 where
  pub scalars : (x : ℕ) → x ≤ 31 → numbers (words (f.scalars x)) ≡ put_for file put (encode (word 2 (pos x)))
  pub arrays : (x : ℕ) → x ≤ 31 → numbers (words (f.arrays x)) ≡ put_for file put (encode (word 16 (pos x)))
  pub others : (k : ℕ) (z : ℤ) → (k ≡ 2 → ⊥) → (k ≡ 16 → ⊥) → InRange (word k z) →
      put_for file put (encode (word k z)) ≡ encode (word k z) ∷ []
  pub scalars-fit : (x : ℕ) → x ≤ 31 → AllInRange (words (f.scalars x))
  pub arrays-fit : (x : ℕ) → x ≤ 31 → AllInRange (words (f.arrays x))

-- words whose numbers are those of others, with what is put for them; and they are in range
pub record WordsExchanged (file : List ℕ) (put : Put) (k k' : List Word) : Type 0 where
  pub same : numbers k' ≡ exchanged file put (numbers k)
  pub fit : AllInRange k'

module _ {file : List ℕ} {put : Put} where
  pub both : {k l k' l' : List Word} → WordsExchanged file put k k' → WordsExchanged file put l l' → WordsExchanged file put (k ++ l) (k' ++ l')
  both {k} {l} {k'} {l'} x y = record {
    same =
        numbers-append k' l'
        ∙ ap₂ ◌++◌ x.same y.same
        ∙ sym (exchanged-append file put (numbers k) (numbers l))
        ∙ ap (exchanged file put) (sym (numbers-append k l));
    fit = in_range-append k' l' x.fit y.fit;
  }

  -- a word with what is put for it
  turned : {v : Word} {k : List Word} → numbers k ≡ put_for file put (encode v) → AllInRange k → WordsExchanged file put (v ∷ []) k
  unfolding numbers exchanged
  turned {v} e g = record { same = e ∙ sym (append-nil (put_for file put (encode v))); fit = g }

module _ {file : List ℕ} {put : Put} {f : Replacement} (r : Replaces file put f) where
  stays : (k : ℕ) (z : ℤ) → (k ≡ 2 → ⊥) → (k ≡ 16 → ⊥) → InRange (word k z) → WordsExchanged file put (word k z ∷ []) (word k z ∷ [])
  unfolding numbers
  stays k z g h i = turned (sym (r.others k z g h i)) (i, tt)

  pub replaces : {k : Sort} (d : ℕ) (e : Expr k) → FitsExpression e d → WordsExchanged file put (words e) (words (replace e f))
  unfolding words replace FitsExpression
  replaces zero e g = absurd g
  replaces (suc d) (constant z) g = stays 1 z (λ h. omega arith) (λ h. omega arith) (constant-range z g)
  replaces (suc d) (scalar x) g = turned (r.scalars x g) (r.scalars-fit x g)
  replaces (suc d) (operation o a b) g =
      both
      (stays 3 (operator_payload o) (λ h. omega arith) (λ h. omega arith) (operator_range o))
      (both (replaces d a g.0) (replaces d b g.1))
  replaces (suc d) (select h i) g =
      both
      (stays 4 (pos 0) (λ h. omega arith) (λ h. omega arith) (omega arith, refl, refl))
      (both (replaces d h g.0) (replaces d i g.1))
  replaces (suc d) (compare o a b) g =
      both
      (stays 8 (comparison_payload o) (λ h. omega arith) (λ h. omega arith) (comparison_range o))
      (both (replaces d a g.0) (replaces d b g.1))
  replaces (suc d) (truth t) g = stays 9 (truth_payload t) (λ h. omega arith) (λ h. omega arith) (truth-range t)
  replaces (suc d) (and b c) g =
      both
      (stays 10 (pos 0) (λ h. omega arith) (λ h. omega arith) (omega arith, refl, refl))
      (both (replaces d b g.0) (replaces d c g.1))
  replaces (suc d) (or b c) g =
      both
      (stays 11 (pos 0) (λ h. omega arith) (λ h. omega arith) (omega arith, refl, refl))
      (both (replaces d b g.0) (replaces d c g.1))
  replaces (suc d) (neg b) g = both (stays 12 (pos 0) (λ h. omega arith) (λ h. omega arith) (omega arith, refl, refl)) (replaces d b g)
  replaces (suc d) (array x) g = turned (r.arrays x g) (r.arrays-fit x g)
  replaces (suc d) zeros g = stays 17 (pos 0) (λ h. omega arith) (λ h. omega arith) (omega arith, refl, refl)
  replaces (suc d) (update h i a) g =
      both
      (stays 18 (pos 0) (λ h. omega arith) (λ h. omega arith) (omega arith, refl, refl))
      (both (replaces d h g.0) (both (replaces d i g.1.0) (replaces d a g.1.1)))

identifier-fits : {A : Type 0} (w : A → List Word) (ident : ℕ → A) (n x : ℕ) (a : A) → AllInRange (w a) →
    AllInRange (w (ident x)) → AllInRange (w (cond (eqb n x) a (ident x)))
identifier-fits w ident n x a f g = go (eqb n x)
  where
    go : (b : Bool) → AllInRange (w (cond b a (ident x)))
    go true = f
    go false = g

kinds : (j k n : ℕ) (z : ℤ) → (k ≡ j → ⊥) → n ≤ 31 → InRange (word k z) → encode (word k z) ≡ j * payloads + n → ⊥
kinds j k n z h l f e = let p = content-small (word k z) f in h (omega arith)

-- the word of an identifier, and the right side that stands between two places
module _ (file : List ℕ) (put : Put) where
  -- a word of another kind, or another identifier, is not replaced
  other : (v : ℕ) → (v ≡ put.word → ⊥) → put_for file put v ≡ v ∷ []
  unfolding put_for
  other v h = simp (ne_eqb v put.word h)

  identifier : {A : Type 0} (w : A → List Word) (ident : ℕ → A) (k n x : ℕ) (a : A) → put.word ≡ k * payloads + n →
      between file put.from put.to ≡ numbers (w a) → numbers (w (ident x)) ≡ (k * payloads + x) ∷ [] →
      numbers (w (cond (eqb n x) a (ident x))) ≡ put_for file put (k * payloads + x)
  unfolding put_for
  identifier w ident k n x a e s i = go (eqb n x) refl
    where
      go : (b : Bool) → eqb n x ≡ b → numbers (w (cond b a (ident x))) ≡ put_for file put (k * payloads + x)
      go true h = let same = eqb-true n x h in simp (eq-eqb (k * payloads + x) put.word (omega arith)) (sym s)
      go false h = let differ = eqb-false n x h in i ∙ sym (other (k * payloads + x) λ q. differ (omega arith))

  -- rule 3: the word 2:x
  pub scalar-replaces : (x : ℕ) (a : Expr Arithmetic) → x ≤ 31 → put.word ≡ 2 * payloads + x →
      between file put.from put.to ≡ numbers (words a) → AllInRange (words a) →
      Replaces file put (replacement (to_scalar x a))
  unfolding words numbers
  scalar-replaces x a l e s f = record {
    scalars = λ y h. identifier words scalar 2 x y a e s refl;
    arrays = λ y h. sym (other _ λ q. kinds 2 16 x (pos y) (λ k. omega arith) l (omega arith, refl, refl) (q ∙ e));
    others = λ k z g h i. other _ λ q. kinds 2 k x z g l i (q ∙ e);
    scalars-fit = λ y h. identifier-fits words scalar x y a f ((omega arith, refl, refl), tt);
    arrays-fit = λ y h. ((omega arith, refl, refl), tt);
  }

  -- rule 4: the word 16:a
  pub array-replaces : (x : ℕ) (a : Expr Array) → x ≤ 31 → put.word ≡ 16 * payloads + x →
      between file put.from put.to ≡ numbers (words a) → AllInRange (words a) →
      Replaces file put (replacement (to_array x a))
  unfolding words numbers
  array-replaces x a l e s f = record {
    scalars = λ y h. sym (other _ λ q. kinds 16 2 x (pos y) (λ k. omega arith) l (omega arith, refl, refl) (q ∙ e));
    arrays = λ y h. identifier words array 16 x y a e s refl;
    others = λ k z g h i. other _ λ q. kinds 16 k x z h l i (q ∙ e);
    scalars-fit = λ y h. ((omega arith, refl, refl), tt);
    arrays-fit = λ y h. identifier-fits words array x y a f ((omega arith, refl, refl), tt);
  }
