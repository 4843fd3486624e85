-- Request [1] of document 02 against the order before it: what and and or are worth and what of them is worked out, and what the request
-- leaves as it was.
-- Assumes nothing.
--     and-value, or-value                          over all integers, a left side that settles a test gives its value
--     evaluate-and_settled, evaluate-or_settled    such a left side is all that is worked out
--     evaluate-and_both, evaluate-or_both          where both sides have a value, the test's is theirs
--     test-still, test-valued                      what was not refused is not refused; where both sides have a value the same is said
--     as_before, same-result    an answer that is kept; where both sides have a value at every step, the order before came to the same
--     no-fewer_steps            a run does not stop after fewer steps than before
use mathlib.Core.Path.{◌≡◌, refl, sym, ap, ◌∙◌}
use mathlib.Core.Bool.{Bool, true, false, cond, ◌&&◌, ◌||◌}
use mathlib.Core.List.{[], ◌∷◌}
use mathlib.Core.Option.{Option, none, some, none-ne-some}
use Prim.Native.Nat.{ℕ, ◌<◌, ◌≤◌}
use native.Mathlib.Omega.{arith}
use borrow.Author.Tests.{ltb-true, ltb-false}
use lib.Dec.{ltb}
use Rattle.language.specs.Syntax.{Boolean, Expr, compare, truth, and, or, neg}
use Rattle.language.specs.Store.{Store, value}
use Rattle.layout.specs.File.{File}
use Rattle.execution.specs.Evaluate.{worked, evaluate}
use Rattle.execution.specs.Due.{Step, skips, calls, asserts, tests, gives}
use Rattle.execution.specs.Refusal.{unless, first, refusal_of, step_refusal, refusal}
use Rattle.execution.specs.Ran.{Answer}
use Rattle.execution.specs.Executes.{RefusalOrder, Unrefused, Executes, ends, stops}
use Rattle.execution.specs.Strict.{strict_refusal_of, strict_step_refusal, strict_refusal, BothValued, SidesValued}
use Rattle.execution.specs.Strict.{Valued, KeptAnswer, kept-number, kept-valued}
use Rattle.execution.proofs.Refusal.{Number, no_number, a_number, both-number, expression-number, first_one}
use Rattle.language.proofs.Once.{one-count}
use Rattle.execution.proofs.Before.{due-before}
use Rattle.execution.proofs.Exact.{not-before}

-- ---- Over all integers, a left side that settles a test gives its value.
module _ (b c : Expr Boolean) (s : Store) where
  pub and-value : value (and b c) s ≡ cond (value b s) (value c s) false
  unfolding value
  and-value = by_left (value b s)
    where
      by_left : (v : Bool) → (v && value c s) ≡ cond v (value c s) false
      by_left true = refl
      by_left false = refl

  pub or-value : value (or b c) s ≡ cond (value b s) true (value c s)
  unfolding value
  or-value = by_left (value b s)
    where
      by_left : (v : Bool) → (v || value c s) ≡ cond v true (value c s)
      by_left true = refl
      by_left false = refl

  -- ---- A left side that settles the test is all that is worked out.
  pub evaluate-and_settled : evaluate b s ≡ worked false → evaluate (and b c) s ≡ worked false
  unfolding evaluate
  evaluate-and_settled e = rw e refl

  pub evaluate-or_settled : evaluate b s ≡ worked true → evaluate (or b c) s ≡ worked true
  unfolding evaluate
  evaluate-or_settled e = rw e refl

  -- ---- Where both sides have a value, the test's is theirs.
  pub evaluate-and_both : {v w : Bool} → evaluate b s ≡ worked v → evaluate c s ≡ worked w → evaluate (and b c) s ≡ worked (v && w)
  unfolding evaluate
  evaluate-and_both {v} {w} e d = rw (e, d) (by_left v)
    where
      by_left : (v : Bool) → cond v (worked w) (worked false) ≡ worked (v && w)
      by_left true = refl
      by_left false = refl

  pub evaluate-or_both : {v w : Bool} → evaluate b s ≡ worked v → evaluate c s ≡ worked w → evaluate (or b c) s ≡ worked (v || w)
  unfolding evaluate
  evaluate-or_both {v} {w} e d = rw (e, d) (by_left v)
    where
      by_left : (v : Bool) → cond v (worked true) (worked w) ≡ worked (v || w)
      by_left true = refl
      by_left false = refl

-- ---- Two refusals, one after the other.
first-nothing : (r q : Option ℕ) → r ≡ none → q ≡ none → first (r ∷ q ∷ []) ≡ none
unfolding first
first-nothing r q e d = rw (e, d) refl

nothing-first : (r q : Option ℕ) → first (r ∷ q ∷ []) ≡ none → (r ≡ none) × (q ≡ none)
unfolding first
nothing-first none none e = (refl, refl)
nothing-first none (some k) e = (refl, e)
nothing-first (some k) q e = absurd (none-ne-some k (sym e))

cond-nothing : (v : Bool) (r q : Option ℕ) → r ≡ none → q ≡ none → cond v r q ≡ none
cond-nothing true r q e d = e
cond-nothing false r q e d = d

-- ---- Of a test that was not refused nothing is said now, and where both its sides have a value the same is said.
pub test-still : (b : Expr Boolean) (s : Store) → strict_refusal_of b s ≡ none → refusal_of b s ≡ none
unfolding refusal_of strict_refusal_of
test-still (compare r a b) s e = e
test-still (truth t) s e = e
test-still (and b c) s e =
    let x = nothing-first (strict_refusal_of b s) (strict_refusal_of c s) e in
    first-nothing _ _ (test-still b s x.0) (cond-nothing (value b s) (refusal_of c s) none (test-still c s x.1) refl)
test-still (or b c) s e =
    let x = nothing-first (strict_refusal_of b s) (strict_refusal_of c s) e in
    first-nothing _ _ (test-still b s x.0) (cond-nothing (value b s) none (refusal_of c s) refl (test-still c s x.1))
test-still (neg b) s e = test-still b s e

pub test-valued : (b : Expr Boolean) (s : Store) → BothValued b s → refusal_of b s ≡ strict_refusal_of b s
unfolding refusal_of strict_refusal_of BothValued
test-valued (compare r a b) s h = refl
test-valued (truth t) s h = refl
test-valued (and b c) s h = let e = first-nothing _ _ h.0 h.1 in test-still (and b c) s e ∙ sym e
test-valued (or b c) s h = let e = first-nothing _ _ h.0 h.1 in test-still (or b c) s e ∙ sym e
test-valued (neg b) s h = test-valued b s h

-- ---- The same of steps.
step-still : (d : Step) (s : Store) → strict_step_refusal d s ≡ none → step_refusal d s ≡ none
unfolding step_refusal strict_step_refusal
step-still skips s e = e
step-still calls s e = e
step-still (asserts b) s e =
    let x = nothing-first (strict_refusal_of b s) (unless (value b s) 12) e in
    first-nothing _ _ (test-still b s x.0) x.1
step-still (tests b) s e = test-still b s e
step-still (gives a) s e = e

step-valued : (d : Step) (s : Store) → SidesValued d s → step_refusal d s ≡ strict_step_refusal d s
unfolding step_refusal strict_step_refusal SidesValued
step-valued skips s h = refl
step-valued calls s h = refl
step-valued (asserts b) s h = ap (λ r. first (r ∷ unless (value b s) 12 ∷ [])) (test-valued b s h)
step-valued (tests b) s h = test-valued b s h
step-valued (gives a) s h = refl

-- ---- 12 is said of an assertion that has a value: a test is refused by 14 or 15.
strict_number : (b : Expr Boolean) (s : Store) → Number 14 (strict_refusal_of b s)
unfolding strict_refusal_of
strict_number (compare r a b) s = expression-number (compare r a b) s
strict_number (truth t) s = expression-number (truth t) s
strict_number (and b c) s = both-number _ _ (strict_number b s) (strict_number c s)
strict_number (or b c) s = both-number _ _ (strict_number b s) (strict_number c s)
strict_number (neg b) s = strict_number b s

not-below_14 : {A : Type 0} {r : Option ℕ} (k : ℕ) → Number 14 r → k < 14 → r ≡ some k → A
not-below_14 k no_number l e = absurd (none-ne-some k e)
not-below_14 k (a_number {k = j} h i) l e = let same : j ≡ k = cc in absurd (omega arith)

step-below_14 : (d : Step) (s : Store) (k : ℕ) → k < 14 → strict_step_refusal d s ≡ some k → step_refusal d s ≡ some k
unfolding strict_step_refusal step_refusal first
step-below_14 skips s k l e = e
step-below_14 calls s k l e = e
step-below_14 (asserts b) s k l e = by-expression (strict_refusal_of b s) (strict_number b s) refl e
  where
    by-expression : (r : Option ℕ) → Number 14 r → strict_refusal_of b s ≡ r → first (r ∷ unless (value b s) 12 ∷ []) ≡ some k →
        first (refusal_of b s ∷ unless (value b s) 12 ∷ []) ≡ some k
    by-expression none h q e = rw (test-still b s q) e
    by-expression (some j) h q e = not-below_14 k h l e
step-below_14 (tests b) s k l e = not-below_14 k (strict_number b s) l e
step-below_14 (gives a) s k l e = e

-- ---- And of runs on a budget.
module _ (budget : ℕ) where
  said-still : (n : ℕ) (d : Step) (s : Store) → strict_refusal budget n d s ≡ none → refusal budget n d s ≡ none
  said-still n d s e =
      let x = nothing-first (unless (ltb n budget) 13) (strict_step_refusal d s) e in
      first-nothing _ _ x.0 (step-still d s x.1)

  -- with no step left both orders say 13
  said-valued : (n : ℕ) (d : Step) (s : Store) → (n < budget → SidesValued d s) →
      refusal budget n d s ≡ strict_refusal budget n d s
  unfolding first
  said-valued n d s h = by-budget (ltb n budget) refl
    where
      by-budget : (t : Bool) → ltb n budget ≡ t →
          first (unless t 13 ∷ step_refusal d s ∷ []) ≡ first (unless t 13 ∷ strict_step_refusal d s ∷ [])
      by-budget true e = ap (λ r. first (r ∷ [])) (step-valued d s (h (ltb-true n budget e)))
      by-budget false e = refl

  said-below_14 : (n : ℕ) (d : Step) (s : Store) (k : ℕ) → k < 14 → strict_refusal budget n d s ≡ some k →
      refusal budget n d s ≡ some k
  unfolding first
  said-below_14 n d s k l e = by-budget (ltb n budget) e
    where
      by-budget : (t : Bool) → first (unless t 13 ∷ strict_step_refusal d s ∷ []) ≡ some k →
          first (unless t 13 ∷ step_refusal d s ∷ []) ≡ some k
      by-budget true e = first_one _ ∙ step-below_14 d s k l (sym (first_one _) ∙ e)
      by-budget false e = e

  module _ {f : File} {s : Store} where
    unrefused-still : {n : ℕ} → Unrefused (strict_refusal budget) f s n → Unrefused (refusal budget) f s n
    unrefused-still u = record { unrefused = λ x l. said-still _ _ _ (u.unrefused x l) }

    unrefused-valued : {n : ℕ} → Unrefused (refusal budget) f s n → Valued f s budget n → Unrefused (strict_refusal budget) f s n
    unrefused-valued u v = record {
      unrefused = λ x l. sym (said-valued _ _ _ (v.valued x (omega arith))) ∙ u.unrefused x l;
    }

    pub as_before : {a : Answer} {n : ℕ} {t : Store} → Executes (strict_refusal budget) f s a n t → KeptAnswer f s budget a n →
        Executes (refusal budget) f s a n t
    as_before (ends u r) h = ends (unrefused-still u) r
    as_before (stops u due e) (kept-number l) = stops (unrefused-still u) due (said-below_14 _ _ _ _ l e)
    as_before (stops u due e) (kept-valued v) =
        stops (unrefused-still u) due (said-valued _ _ _ (v.valued due (omega arith)) ∙ e)

    pub same-result : {a : Answer} {n : ℕ} {t : Store} → Executes (refusal budget) f s a n t → Valued f s budget n →
        Executes (strict_refusal budget) f s a n t
    same-result (ends u r) v = ends (unrefused-valued u v) r
    same-result (stops u due e) v = stops (unrefused-valued u v) due (sym (said-valued _ _ _ (v.valued due (omega arith))) ∙ e)

    unrefused-of : {said : RefusalOrder} {a : Answer} {n : ℕ} {t : Store} → Executes said f s a n t → Unrefused said f s n
    unrefused-of (ends u r) = u
    unrefused-of (stops u due e) = u

    pub no-fewer_steps : {a a' : Answer} {n n' : ℕ} {t t' : Store} → Executes (strict_refusal budget) f s a n t →
        Executes (refusal budget) f s a' n' t' → n ≤ n'
    no-fewer_steps (ends u r) (ends u' r') = let e = one-count r r' in omega arith
    no-fewer_steps (stops u due e) (ends u' r) = let l = due-before due r in omega arith
    no-fewer_steps {n = n} {n'} x (stops u due e) = by-test (ltb n' n) refl
      where
        by-test : (v : Bool) → ltb n' n ≡ v → n ≤ n'
        by-test true v = not-before (unrefused-still (unrefused-of x)) due e (ltb-true n' n v)
        by-test false v = ltb-false n' n v
