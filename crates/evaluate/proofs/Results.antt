-- What is worked out at a place is the definition's outcome of the tree that stands there, by its first word. A law whose
-- name ends in -first is of a first operand that stops; one that ends in -second or -third has the outcome of that operand.
-- One that ends in -stopped or -answered says the same of a `Stop` or a `Result` of the code, and rests on `onward`.
-- Assumes nothing.
--     passed, passed-filled                                                a stop that `?` hands on
--     becomes, becomes-filled                                              an outcome that is another
--     indexed                                                              an index as the code holds it
--     onward, stopped, went-on                                             going on from one operand to the next; from one that stops, from one
--                                                                          that has a value
--     any-stop, any-outcome                                                the same of a stop with any number, of any outcome
--     after_both                                                           one outcome after another
--     constant-worked, scalar-worked, operation-first, operation-stopped,
--     operation-second                                                     arithmetic
--     element_worked, select-first, select-stopped, select-second          a select, from an array of the store and from any
--     identifier-filled, zeros-filled, update-first, update-stopped,
--     update-second, update-third                                          arrays
--     truth-tested, compare-first, compare-stopped, compare-second,
--     not_tested, and-first, and-stopped, and-second, and-answered,
--     and-settled, or-first, or-stopped, or-second, or-answered, or-settled
--                                                                          booleans
use mathlib.Core.Path.{◌≡◌, refl, sym, ap, ◌∙◌}
use mathlib.Core.Bool.{Bool, true, false, not, cond, ◌&&◌}
use mathlib.Core.List.{List}
use Prim.Native.Nat.{ℕ, ◌+◌, ◌<◌}
use native.Mathlib.Omega.{arith}
use borrow.Author.Tests.{leb-true}
use lib.Dec.{leb}
use lib.IntN.{ℤ, pos, negsuc}
use lib.ListN.{get_or, set}
use mir.Syntax.{w64}
use mir.Val.{SFits, to_z, of_z}
use Rattle.std.specs.Prelude.{Result, Ok, Err, IsErrAnd}
use Rattle.laws.proofs.Bools.{and_right}
use Rattle.language.specs.Syntax as syntax
use Rattle.language.specs.Syntax.{Sort, Expr, select}
use Rattle.language.specs.Store.{Value, same_integer, put, apply, relate}
use Rattle.layout.specs.EvidenceWords.{expression_part}
use Rattle.execution.specs.Lent.{lent, store_of, element_at, elements}
use Rattle.execution.specs.Evaluate.{Evaluation, worked, stops, on_worked, tested, index, evaluate}
use Rattle.words.specs.Meaning.{operator_meant, comparison_meant}
use Rattle.words.specs.declared.Operator.{Operator}
use Rattle.words.specs.declared.Comparison.{Comparison}
use Rattle.words.specs.declared.ArithmeticWord.TheVariants.{Constant, Scalar, Operation, Select}
use Rattle.words.specs.declared.BooleanWord.TheVariants.{Compare, Truth, And, Or, Not}
use Rattle.words.specs.declared.ArrayWord.TheVariants.{Identifier, Zeros, Update}
use Rattle.heads.specs.Stands.{PartAt, arithmetic_at, boolean_at, array_at}
use Rattle.heads.proofs.Parts.{arithmetic-parts, boolean-parts, array_parts}
use Rattle.arithmetic.specs.Worked.{refusal_number, outcome, checked}
use Rattle.arithmetic.specs.declared.Stop.{Stop}
use Rattle.arithmetic.proofs.Signed.{back}
use Rattle.evaluate.specs.Evaluated.{filled, Evaluates, Fills}
use Rattle.evaluate.proofs.Elements.{elements-at, set-elements}
use Rattle.evaluate.proofs.Places.{moved}

-- what follows an index goes by the indexes that exist
on-index : {A : Type 0} (i : Evaluation ℤ) (f g : ℤ → Evaluation A) → ((n : ℕ) → n < 64 → f (pos n) ≡ g (pos n)) →
    on_worked (index i) f ≡ on_worked (index i) g
on-index {A} (worked (pos m)) f g h = go (leb 0 m && leb m 63) refl
  where
    go : (b : Bool) → (leb 0 m && leb m 63) ≡ b → on_worked (tested b 15 (pos m)) f ≡ on_worked (tested b 15 (pos m)) g
    go true e = let l = leb-true m 63 (and_right (leb 0 m) (leb m 63) e) in h m (omega arith)
    go false e = refl
on-index (worked (negsuc m)) f g h = refl
on-index (stops k) f g h = refl

-- going on from one operand to the next: f has what was worked out, and a stop is handed on
pub onward : {A B : Type 0} (o : Evaluation A) (f : A → Evaluation B) (r : Result A Stop) (q : Result B Stop) → outcome r ≡ o →
    ((a : A) → r ≡ Ok a → outcome q ≡ f a) → ((x : Stop) → r ≡ Err x → q ≡ Err x) → outcome q ≡ on_worked o f
onward o f (Ok a) q e h k = h a refl ∙ ap (λ z. on_worked z f) e
onward o f (Err x) q e h k = ap outcome (k x refl) ∙ ap (λ z. on_worked z f) e

-- a first operand that stops is all that is worked out: what follows it hands the stop on
stopped : (x : Stop) (A B : Type 0) (o : Evaluation A) (f : A → Evaluation B) → stops (refusal_number x) ≡ o →
    stops (refusal_number x) ≡ on_worked o f
stopped x A B o f e =
    onward o f (Err x) (Err x) e (λ a h. absurd (cc)) (λ y h. let z : x ≡ y = cc in ap Err z)

any-stop : (k : ℕ) (A B : Type 0) (o : Evaluation A) (f : A → Evaluation B) → stops k ≡ o → stops k ≡ on_worked o f
any-stop k A B o f e = ap (λ y. on_worked y f) e

-- one that has a value goes on to what follows it, which comes to q
went-on : {A B : Type 0} (a : A) (q : Result B Stop) (o : Evaluation A) (f : A → Evaluation B) → worked a ≡ o → outcome q ≡ f a →
    outcome q ≡ on_worked o f
went-on {A} {B} a q o f e h =
    onward o f (Ok a) q e (λ b k. let z : a ≡ b = cc in h ∙ ap f z) (λ y k. absurd (cc))

any-outcome : {A B : Type 0} (a : A) (q : Evaluation B) (o : Evaluation A) (f : A → Evaluation B) → worked a ≡ o → q ≡ f a →
    q ≡ on_worked o f
any-outcome a q o f e h = h ∙ ap (λ y. on_worked y f) e

-- one outcome after another
pub after_both : {A B C : Type 0} (o : Evaluation A) (f : A → Evaluation B) (g : B → Evaluation C) →
    on_worked (on_worked o f) g ≡ on_worked o λ a. on_worked (f a) g
after_both (worked a) f g = refl
after_both (stops k) f g = refl

-- the value at an index, of a list
abbrev entry : List ℤ → ℤ → ℤ
entry l (pos n) = get_or l n (pos 0)
entry l (negsuc n) = pos 0

-- a list with a value at an index
abbrev with_entry : List ℤ → ℤ → ℤ → List ℤ
with_entry l (pos n) w = set l n w
with_entry l (negsuc n) w = l

abbrev entered : Evaluation ℤ → List ℤ → Evaluation ℤ
entered i l = on_worked (index i) λ v. worked (entry l v)

abbrev replaced : Evaluation ℤ → Evaluation ℤ → List ℤ → Evaluation (List ℤ)
replaced i a l = on_worked (index i) λ v. on_worked a λ w. worked (with_entry l v w)

select-is : (o : Evaluation (ℤ → ℤ)) (i : Evaluation ℤ) →
    on_worked (on_worked o λ f. worked (elements f)) (entered i) ≡ on_worked o λ f. on_worked (index i) λ v. worked (f v)
select-is (worked f) i =
    on-index i (λ v. worked (entry (elements f) v)) (λ v. worked (f v)) (λ n h. ap worked (elements-at f n h))
select-is (stops k) i = refl

put_in : (f : ℤ → ℤ) (n : ℕ) → n < 64 → (a : Evaluation ℤ) →
    on_worked a (λ w. worked (with_entry (elements f) (pos n) w))
    ≡ on_worked (on_worked a λ w. worked (put same_integer f (pos n) w)) λ g. worked (elements g)
put_in f n h (worked w) = ap worked (set-elements f n w h)
put_in f n h (stops k) = refl

update-is : (o : Evaluation (ℤ → ℤ)) (i a : Evaluation ℤ) →
    on_worked (on_worked o λ f. worked (elements f)) (replaced i a)
    ≡ on_worked (on_worked o λ f. on_worked (index i) λ v. on_worked a λ w. worked (put same_integer f v w)) λ g.
    worked (elements g)
update-is (worked f) i a =
    on-index i (λ v. on_worked a λ w. worked (with_entry (elements f) v w))
    (λ v. on_worked (on_worked a λ w. worked (put same_integer f v w)) λ g. worked (elements g)) (λ n h. put_in f n h a)
    ∙ sym (after_both (index i) (λ v. on_worked a λ w. worked (put same_integer f v w)) (λ g. worked (elements g)))
update-is (stops k) i a = refl

-- what `?` hands on
told : {A : Type 0} (r : Result A Stop) (e : Stop) → IsErrAnd r (λ d. d ≡ e) → outcome r ≡ stops (refusal_number e)
told (Ok a) e h = absurd h
told (Err d) e h = ap (λ d. stops (refusal_number d)) h

told-filled : {A : Type 0} (r : Result A Stop) (l : List ℤ) (e : Stop) → IsErrAnd r (λ d. d ≡ e) →
    filled r l ≡ stops (refusal_number e)
told-filled (Ok a) l e h = absurd h
told-filled (Err d) l e h = ap (λ d. stops (refusal_number d)) h

pub passed : {k : Sort} {w ends : List ℕ} {ss vs : List ℤ} {at : ℕ} (r : Result (Value k) Stop) (e : Stop) →
    IsErrAnd r (λ d. d ≡ e) → Evaluates k w ends ss vs at (stops (refusal_number e)) →
    Evaluates k w ends ss vs at (outcome r)
passed r e h f = record { is = λ x p t. told r e h ∙ f.is x p t }

pub passed-filled : {A : Type 0} {w ends : List ℕ} {ss vs : List ℤ} {at : ℕ} (r : Result A Stop) (l : List ℤ)
    (e : Stop) → IsErrAnd r (λ d. d ≡ e) → Fills w ends ss vs at (stops (refusal_number e)) →
    Fills w ends ss vs at (filled r l)
passed-filled r l e h f = record { is = λ x p t. told-filled r l e h ∙ f.is x p t }

-- of an outcome that is another
pub becomes : {k : Sort} {w ends : List ℕ} {ss vs : List ℤ} {at : ℕ} {o o' : Evaluation (Value k)} → o ≡ o' →
    Evaluates k w ends ss vs at o' → Evaluates k w ends ss vs at o
becomes q f = record { is = λ e p x. q ∙ f.is e p x }

pub becomes-filled : {w ends : List ℕ} {ss vs : List ℤ} {at : ℕ} {o o' : Evaluation (List ℤ)} → o ≡ o' →
    Fills w ends ss vs at o' → Fills w ends ss vs at o
becomes-filled q f = record { is = λ e p x. q ∙ f.is e p x }

-- an index as the code holds it
pub indexed : {o : Evaluation ℤ} (z : ℤ) → SFits w64 z → o ≡ index (worked (to_z w64 (of_z w64 z))) →
    o ≡ index (worked z)
indexed z f h = h ∙ ap (λ z. index (worked z)) (back f)

-- an index that is worked out, then tested
tested-at : {A : Type 0} {w ends : List ℕ} {ss vs : List ℤ} {q : ℕ} {i j : Evaluation ℤ} (f : ℤ → Evaluation A) →
    j ≡ index i → Evaluates syntax.Arithmetic w ends ss vs q i → (e : Expr syntax.Arithmetic) (p : ℕ) →
    PartAt w ends (expression_part e) q p → on_worked j f ≡ on_worked (index (evaluate e (store_of (lent ss vs)))) f
tested-at f k g e p x = ap (λ y. on_worked y f) (k ∙ ap index (g.is e p x))

module _ {w ends : List ℕ} {ss vs : List ℤ} {at : ℕ} where
  pub constant-worked : (z : ℤ) → SFits w64 z → arithmetic_at w at ≡ Constant z →
      Evaluates syntax.Arithmetic w ends ss vs at (worked (to_z w64 (of_z w64 z)))
  unfolding evaluate
  constant-worked z f h = record {
    is = λ e p t. let m = store_of (lent ss vs) in ap worked (back f) ∙ sym (ap (λ x. evaluate x m) (arithmetic-parts e t h));
  }

  pub scalar-worked : (x : ℕ) → SFits w64 (get_or ss x (pos 0)) → arithmetic_at w at ≡ Scalar x →
      Evaluates syntax.Arithmetic w ends ss vs at (worked (to_z w64 (of_z w64 (get_or ss x (pos 0)))))
  unfolding evaluate
  scalar-worked x f h = record {
    is = λ e p t. let m = store_of (lent ss vs) in ap worked (back f) ∙ sym (ap (λ y. evaluate y m) (arithmetic-parts e t h).0);
  }

  pub identifier-filled : (a : ℕ) (l : List ℤ) → array_at w at ≡ Identifier a → l ≡ elements (element_at vs a) →
      Fills w ends ss vs at (worked l)
  unfolding evaluate
  identifier-filled a l h q = record {
    is = λ e p t. let m = store_of (lent ss vs) in
        ap worked q
        ∙ sym (ap (λ y. on_worked (evaluate y m) λ f. worked (elements f)) (array_parts e t h).0);
  }

  pub zeros-filled : (l : List ℤ) → array_at w at ≡ Zeros → l ≡ elements (λ i. pos 0) → Fills w ends ss vs at (worked l)
  unfolding evaluate
  zeros-filled l h q = record {
    is = λ e p t. let m = store_of (lent ss vs) in
        ap worked q ∙ sym (ap (λ y. on_worked (evaluate y m) λ f. worked (elements f)) (array_parts e t h));
  }

  pub truth-tested : (t : Bool) → boolean_at w at ≡ Truth t → Evaluates syntax.Boolean w ends ss vs at (worked t)
  unfolding evaluate
  truth-tested t h = record { is = λ e p x. let m = store_of (lent ss vs) in sym (ap (λ y. evaluate y m) (boolean-parts e x h)) }

  -- the outcome of a first operand
  module _ {o : Evaluation Bool} (f : Evaluates syntax.Boolean w ends ss vs (at + 1) o) where
    pub not_tested : boolean_at w at ≡ Not → Evaluates syntax.Boolean w ends ss vs at (on_worked o λ v. worked (not v))
    unfolding evaluate
    not_tested h = record {
      is = λ e p x. let m = store_of (lent ss vs) in
          let t = boolean-parts e x h in
          ap (λ y. on_worked y λ v. worked (not v)) (f.is t.first p t.first-at) ∙ sym (ap (λ y. evaluate y m) t.is);
    }

  -- a first operand that stops, whose stop is handed on
  module _ (k : ℕ) (on : (A B : Type 0) (o : Evaluation A) (f : A → Evaluation B) → stops k ≡ o → stops k ≡ on_worked o f) where
    operation-on : {o : Operator} → Evaluates syntax.Arithmetic w ends ss vs (at + 1) (stops k) →
        arithmetic_at w at ≡ Operation o → Evaluates syntax.Arithmetic w ends ss vs at (stops k)
    unfolding evaluate checked
    operation-on {o} f h = record {
      is = λ e p x. let m = store_of (lent ss vs) in
          let t = arithmetic-parts e x h in
          on _ _ _ (λ v. on_worked (evaluate t.second m) λ z. checked (apply (operator_meant o) v z))
          (f.is t.first t.middle t.first-at)
          ∙ sym (ap (λ y. evaluate y m) t.is);
    }

    compare-on : {c : Comparison} → Evaluates syntax.Arithmetic w ends ss vs (at + 1) (stops k) →
        boolean_at w at ≡ Compare c → Evaluates syntax.Boolean w ends ss vs at (stops k)
    unfolding evaluate
    compare-on {c} f h = record {
      is = λ e p x. let m = store_of (lent ss vs) in
          let t = boolean-parts e x h in
          on _ _ _ (λ v. on_worked (evaluate t.second m) λ z. worked (relate (comparison_meant c) v z))
          (f.is t.first t.middle t.first-at)
          ∙ sym (ap (λ y. evaluate y m) t.is);
    }

    and-on : Evaluates syntax.Boolean w ends ss vs (at + 1) (stops k) → boolean_at w at ≡ And →
        Evaluates syntax.Boolean w ends ss vs at (stops k)
    unfolding evaluate
    and-on f h = record {
      is = λ e p x. let m = store_of (lent ss vs) in
          let t = boolean-parts e x h in
          on _ _ _ (λ v. cond v (evaluate t.second m) (worked false)) (f.is t.first t.middle t.first-at)
          ∙ sym (ap (λ y. evaluate y m) t.is);
    }

    or-on : Evaluates syntax.Boolean w ends ss vs (at + 1) (stops k) → boolean_at w at ≡ Or →
        Evaluates syntax.Boolean w ends ss vs at (stops k)
    unfolding evaluate
    or-on f h = record {
      is = λ e p x. let m = store_of (lent ss vs) in
          let t = boolean-parts e x h in
          on _ _ _ (λ v. cond v (worked true) (evaluate t.second m)) (f.is t.first t.middle t.first-at)
          ∙ sym (ap (λ y. evaluate y m) t.is);
    }

    select-on : Fills w ends ss vs (at + 1) (stops k) → arithmetic_at w at ≡ Select →
        Evaluates syntax.Arithmetic w ends ss vs at (stops k)
    unfolding evaluate
    select-on f h = record {
      is = λ e p x. let m = store_of (lent ss vs) in
          let t = arithmetic-parts e x h in
          on _ _ _ (entered (evaluate t.second m)) (f.is t.first t.middle t.first-at)
          ∙ select-is (evaluate t.first m) (evaluate t.second m)
          ∙ sym (ap (λ y. evaluate y m) t.is);
    }

    update-on : Fills w ends ss vs (at + 1) (stops k) → array_at w at ≡ Update → Fills w ends ss vs at (stops k)
    unfolding evaluate
    update-on f h = record {
      is = λ e p x. let m = store_of (lent ss vs) in
          let t = array_parts e x h in
          on _ _ _ (replaced (evaluate t.second m) (evaluate t.third m)) (f.is t.first t.middle t.first-at)
          ∙ update-is (evaluate t.first m) (evaluate t.second m) (evaluate t.third m)
          ∙ sym (ap (λ y. on_worked (evaluate y m) λ f. worked (elements f)) t.is);
    }

  -- by any number
  module _ {k : ℕ} where
    pub operation-first : {o : Operator} → Evaluates syntax.Arithmetic w ends ss vs (at + 1) (stops k) →
        arithmetic_at w at ≡ Operation o → Evaluates syntax.Arithmetic w ends ss vs at (stops k)
    operation-first f h = operation-on k (any-stop k) f h

    pub compare-first : {c : Comparison} → Evaluates syntax.Arithmetic w ends ss vs (at + 1) (stops k) →
        boolean_at w at ≡ Compare c → Evaluates syntax.Boolean w ends ss vs at (stops k)
    compare-first f h = compare-on k (any-stop k) f h

    pub and-first : Evaluates syntax.Boolean w ends ss vs (at + 1) (stops k) → boolean_at w at ≡ And →
        Evaluates syntax.Boolean w ends ss vs at (stops k)
    and-first f h = and-on k (any-stop k) f h

    pub or-first : Evaluates syntax.Boolean w ends ss vs (at + 1) (stops k) → boolean_at w at ≡ Or →
        Evaluates syntax.Boolean w ends ss vs at (stops k)
    or-first f h = or-on k (any-stop k) f h

    pub select-first : Fills w ends ss vs (at + 1) (stops k) → arithmetic_at w at ≡ Select →
        Evaluates syntax.Arithmetic w ends ss vs at (stops k)
    select-first f h = select-on k (any-stop k) f h

    pub update-first : Fills w ends ss vs (at + 1) (stops k) → array_at w at ≡ Update → Fills w ends ss vs at (stops k)
    update-first f h = update-on k (any-stop k) f h

  -- by a stop of the code, which `?` hands on
  module _ (k : Stop) where
    pub operation-stopped : {o : Operator} → Evaluates syntax.Arithmetic w ends ss vs (at + 1) (stops (refusal_number k)) →
        arithmetic_at w at ≡ Operation o → Evaluates syntax.Arithmetic w ends ss vs at (stops (refusal_number k))
    operation-stopped f h = operation-on (refusal_number k) (stopped k) f h

    pub compare-stopped : {c : Comparison} → Evaluates syntax.Arithmetic w ends ss vs (at + 1) (stops (refusal_number k)) →
        boolean_at w at ≡ Compare c → Evaluates syntax.Boolean w ends ss vs at (stops (refusal_number k))
    compare-stopped f h = compare-on (refusal_number k) (stopped k) f h

    pub and-stopped : Evaluates syntax.Boolean w ends ss vs (at + 1) (stops (refusal_number k)) → boolean_at w at ≡ And →
        Evaluates syntax.Boolean w ends ss vs at (stops (refusal_number k))
    and-stopped f h = and-on (refusal_number k) (stopped k) f h

    pub or-stopped : Evaluates syntax.Boolean w ends ss vs (at + 1) (stops (refusal_number k)) → boolean_at w at ≡ Or →
        Evaluates syntax.Boolean w ends ss vs at (stops (refusal_number k))
    or-stopped f h = or-on (refusal_number k) (stopped k) f h

    pub select-stopped : Fills w ends ss vs (at + 1) (stops (refusal_number k)) → arithmetic_at w at ≡ Select →
        Evaluates syntax.Arithmetic w ends ss vs at (stops (refusal_number k))
    select-stopped f h = select-on (refusal_number k) (stopped k) f h

    pub update-stopped : Fills w ends ss vs (at + 1) (stops (refusal_number k)) → array_at w at ≡ Update →
        Fills w ends ss vs at (stops (refusal_number k))
    update-stopped f h = update-on (refusal_number k) (stopped k) f h

  -- the left side settles the test
  pub and-settled : {a : Bool} → Evaluates syntax.Boolean w ends ss vs (at + 1) (worked a) → boolean_at w at ≡ And →
      a ≡ false → Evaluates syntax.Boolean w ends ss vs at (worked a)
  unfolding evaluate
  and-settled f h i = record {
    is = λ e p x. let m = store_of (lent ss vs) in
        let t = boolean-parts e x h in
        ap worked i ∙ ap (λ a. cond a (evaluate t.second m) (worked false)) (sym i)
        ∙ ap (λ y. on_worked y λ v. cond v (evaluate t.second m) (worked false)) (f.is t.first t.middle t.first-at)
        ∙ sym (ap (λ y. evaluate y m) t.is);
  }

  pub or-settled : {a : Bool} → Evaluates syntax.Boolean w ends ss vs (at + 1) (worked a) → boolean_at w at ≡ Or →
      a ≡ true → Evaluates syntax.Boolean w ends ss vs at (worked a)
  unfolding evaluate
  or-settled f h i = record {
    is = λ e p x. let m = store_of (lent ss vs) in
        let t = boolean-parts e x h in
        ap worked i ∙ ap (λ a. cond a (worked true) (evaluate t.second m)) (sym i)
        ∙ ap (λ y. on_worked y λ v. cond v (worked true) (evaluate t.second m)) (f.is t.first t.middle t.first-at)
        ∙ sym (ap (λ y. evaluate y m) t.is);
  }

  -- the second operand stands where the first ends
  module _ {q : ℕ} (next : q ≡ get_or ends (at + 1) 0) where
    module _ {a : ℤ} {o : Evaluation ℤ} (f : Evaluates syntax.Arithmetic w ends ss vs (at + 1) (worked a))
        (g : Evaluates syntax.Arithmetic w ends ss vs q o) where
      pub operation-second : {c : Operator} → arithmetic_at w at ≡ Operation c →
          Evaluates syntax.Arithmetic w ends ss vs at (on_worked o λ b. checked (apply (operator_meant c) a b))
      unfolding evaluate checked
      operation-second {c} h = record {
        is = λ e p x. let m = store_of (lent ss vs) in
            let t = arithmetic-parts e x h in
            ap (λ y. on_worked y λ b. checked (apply (operator_meant c) a b))
            (g.is t.second p (moved t.first next t.first-at t.second_at))
            ∙ ap (λ y. on_worked y λ v. on_worked (evaluate t.second m) λ z. checked (apply (operator_meant c) v z))
            (f.is t.first t.middle t.first-at)
            ∙ sym (ap (λ y. evaluate y m) t.is);
      }

      pub compare-second : {c : Comparison} → boolean_at w at ≡ Compare c →
          Evaluates syntax.Boolean w ends ss vs at (on_worked o λ b. worked (relate (comparison_meant c) a b))
      unfolding evaluate
      compare-second {c} h = record {
        is = λ e p x. let m = store_of (lent ss vs) in
            let t = boolean-parts e x h in
            ap (λ y. on_worked y λ b. worked (relate (comparison_meant c) a b))
            (g.is t.second p (moved t.first next t.first-at t.second_at))
            ∙ ap (λ y. on_worked y λ v. on_worked (evaluate t.second m) λ z. worked (relate (comparison_meant c) v z))
            (f.is t.first t.middle t.first-at)
            ∙ sym (ap (λ y. evaluate y m) t.is);
      }

    -- the left side does not settle the test, so that the right side's outcome is the test's
    module _ {a : Bool} {o : Evaluation Bool} (on : (y : Evaluation Bool) (f : Bool → Evaluation Bool) → worked a ≡ y → o ≡ f a → o ≡ on_worked y f)
        (f : Evaluates syntax.Boolean w ends ss vs (at + 1) (worked a)) (g : Evaluates syntax.Boolean w ends ss vs q o) where
      and-due : boolean_at w at ≡ And → a ≡ true → Evaluates syntax.Boolean w ends ss vs at o
      unfolding evaluate
      and-due h i = record {
        is = λ e p x. let m = store_of (lent ss vs) in
            let t = boolean-parts e x h in
            on _ (λ v. cond v (evaluate t.second m) (worked false)) (f.is t.first t.middle t.first-at)
            (g.is t.second p (moved t.first next t.first-at t.second_at)
            ∙ ap (λ a. cond a (evaluate t.second m) (worked false)) (sym i))
            ∙ sym (ap (λ y. evaluate y m) t.is);
      }

      or-due : boolean_at w at ≡ Or → a ≡ false → Evaluates syntax.Boolean w ends ss vs at o
      unfolding evaluate
      or-due h i = record {
        is = λ e p x. let m = store_of (lent ss vs) in
            let t = boolean-parts e x h in
            on _ (λ v. cond v (worked true) (evaluate t.second m)) (f.is t.first t.middle t.first-at)
            (g.is t.second p (moved t.first next t.first-at t.second_at)
            ∙ ap (λ a. cond a (worked true) (evaluate t.second m)) (sym i))
            ∙ sym (ap (λ y. evaluate y m) t.is);
      }

    -- any outcome
    module _ {a : Bool} {o : Evaluation Bool} (f : Evaluates syntax.Boolean w ends ss vs (at + 1) (worked a))
        (g : Evaluates syntax.Boolean w ends ss vs q o) where
      pub and-second : boolean_at w at ≡ And → a ≡ true → Evaluates syntax.Boolean w ends ss vs at o
      and-second h i = and-due (any-outcome a o) f g h i

      pub or-second : boolean_at w at ≡ Or → a ≡ false → Evaluates syntax.Boolean w ends ss vs at o
      or-second h i = or-due (any-outcome a o) f g h i

    -- what the code has for it
    module _ {a : Bool} (r : Result Bool Stop) (f : Evaluates syntax.Boolean w ends ss vs (at + 1) (worked a))
        (g : Evaluates syntax.Boolean w ends ss vs q (outcome r)) where
      pub and-answered : boolean_at w at ≡ And → a ≡ true → Evaluates syntax.Boolean w ends ss vs at (outcome r)
      and-answered h i = and-due (went-on a r) f g h i

      pub or-answered : boolean_at w at ≡ Or → a ≡ false → Evaluates syntax.Boolean w ends ss vs at (outcome r)
      or-answered h i = or-due (went-on a r) f g h i

    -- an index, worked out to i and tested to j
    module _ {i j : Evaluation ℤ} (g : Evaluates syntax.Arithmetic w ends ss vs q i) (k : j ≡ index i) where
      -- of an array of the store
      pub element_worked : {a : ℕ} → arithmetic_at w at ≡ Select → array_at w (at + 1) ≡ Identifier a →
          Evaluates syntax.Arithmetic w ends ss vs at (on_worked j λ v. worked (element_at vs a v))
      unfolding evaluate
      element_worked {a} h y = record {
        is = λ e p x. let m = store_of (lent ss vs) in
            let t = arithmetic-parts e x h in
            tested-at (λ v. worked (element_at vs a v)) k g t.second p (moved t.first next t.first-at t.second_at)
            ∙ sym (ap (λ y. evaluate y m) t.is
            ∙ ap (λ y. evaluate (select y t.second) m) (array_parts t.first t.first-at y).0);
      }

      -- of any array
      module _ {l : List ℤ} (f : Fills w ends ss vs (at + 1) (worked l)) where
        pub select-second : arithmetic_at w at ≡ Select →
            Evaluates syntax.Arithmetic w ends ss vs at (on_worked j λ v. worked (entry l v))
        unfolding evaluate
        select-second h = record {
          is = λ e p x. let m = store_of (lent ss vs) in
              let t = arithmetic-parts e x h in
              tested-at (λ v. worked (entry l v)) k g t.second p (moved t.first next t.first-at t.second_at)
              ∙ ap (λ y. on_worked y (entered (evaluate t.second m))) (f.is t.first t.middle t.first-at)
              ∙ select-is (evaluate t.first m) (evaluate t.second m)
              ∙ sym (ap (λ y. evaluate y m) t.is);
        }

    -- the index of an update stops
    pub update-second : {i : Evaluation ℤ} {k : ℕ} {l : List ℤ} → Evaluates syntax.Arithmetic w ends ss vs q i →
        stops k ≡ index i → Fills w ends ss vs (at + 1) (worked l) → array_at w at ≡ Update →
        Fills w ends ss vs at (stops k)
    unfolding evaluate
    update-second {i} {k} {l} g j f h = record {
      is = λ e p x. let m = store_of (lent ss vs) in
          let t = array_parts e x h in
          tested-at (λ v. on_worked (evaluate t.third m) λ z. worked (with_entry l v z)) j g t.second t.last
          (moved t.first next t.first-at t.second_at)
          ∙ ap (λ y. on_worked y (replaced (evaluate t.second m) (evaluate t.third m))) (f.is t.first t.middle t.first-at)
          ∙ update-is (evaluate t.first m) (evaluate t.second m) (evaluate t.third m)
          ∙ sym (ap (λ y. on_worked (evaluate y m) λ f. worked (elements f)) t.is);
    }

    -- the value of an update, after its index n
    pub update-third : {i o : Evaluation ℤ} {n r : ℕ} {l : List ℤ} → Evaluates syntax.Arithmetic w ends ss vs q i →
        worked (pos n) ≡ index i → Fills w ends ss vs (at + 1) (worked l) → r ≡ get_or ends q 0 →
        Evaluates syntax.Arithmetic w ends ss vs r o → array_at w at ≡ Update →
        Fills w ends ss vs at (on_worked o λ z. worked (set l n z))
    unfolding evaluate
    update-third {i} {o} {n} {r} {l} g j f last y h = record {
      is = λ e p x. let m = store_of (lent ss vs) in
          let t = array_parts e x h in
          let second = moved t.first next t.first-at t.second_at in
          ap (λ y. on_worked y λ z. worked (set l n z)) (y.is t.third p (moved t.second last second t.third_at))
          ∙ tested-at (λ v. on_worked (evaluate t.third m) λ z. worked (with_entry l v z)) j g t.second t.last second
          ∙ ap (λ y. on_worked y (replaced (evaluate t.second m) (evaluate t.third m))) (f.is t.first t.middle t.first-at)
          ∙ update-is (evaluate t.first m) (evaluate t.second m) (evaluate t.third m)
          ∙ sym (ap (λ y. on_worked (evaluate y m) λ f. worked (elements f)) t.is);
    }
