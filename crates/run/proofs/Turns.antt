-- Turns one after the other, by one turn and what follows it.
-- Assumes nothing.
--     turns-again, turns-over, turns-stopped    the definition's turns, where one more is due, where none is, and where one stops
--     LoopGoing                                 what a loop has done so far
--     going_none, going_on, going_falls         its turns, and that the steps left fall
--     going_over, going_refused, going_stopped  what it comes to
use mathlib.Core.Path.{◌≡◌, refl, sym, ap, subst, ◌∙◌}
use mathlib.Core.Bool.{Bool, true, false}
use mathlib.Core.List.{List}
use Prim.Native.Nat.{ℕ, zero, suc, ◌<◌, ◌≤◌}
use native.Mathlib.Omega.{arith}
use Rattle.std.specs.Prelude.{Result, Ok, Err}
use Rattle.language.specs.Syntax as syntax
use Rattle.language.specs.Syntax.{Expr}
use Rattle.execution.specs.Lent.{Lent, store_of}
use Rattle.execution.specs.Evaluate.{Evaluation, worked, stops, evaluate}
use Rattle.execution.specs.Run as definition
use Rattle.execution.specs.Run.{ended, stopped, on_ended, step, turns}
use Rattle.run.specs.declared.Halt.{Halt}
use Rattle.run.specs.declared.Progress.{Progress}
use Rattle.heads.specs.Stands.{Runnable, CommandStands}
use Rattle.run.specs.Steps.{halt_number, after_step, Stepped}
use Rattle.run.specs.Turns.{loop_test, loop_body, TestsLoop, TurnsAs, PassAs}
use Rattle.run.proofs.Steps.{step_less}
use Rattle.run.proofs.Bounds.{Bounded, body-bounded}

module _ (b : Expr syntax.Boolean) (body : ℕ → Lent → definition.End) (at : ℕ) where
  -- what follows the test
  abbrev go : ℕ → Lent → Bool → ℕ → definition.End
  go k m v l = elim v [ true ↦ on_ended (body l m) (turns k b body at) | false ↦ ended l m ]

  -- a step of the test is a step of the loop
  pub turn-is : {r : Result Bool Halt} (n : ℕ) (m : Lent) {l : Progress} → Stepped at n (evaluate b (store_of m)) r l → (k : ℕ) → n ≡ suc k →
      after_step r l m (go k m) ≡ turns n b body at n m
  unfolding turns
  turn-is n m g k e = g.is m (go k m) ∙ sym (ap (λ j. turns j b body at n m) e)

  none-taken : {A : Type 0} {l : Progress} {v : Bool} (m : Lent) → Stepped at 0 (evaluate b (store_of m)) (Ok v) l → A
  none-taken m g = let h = step_less g in absurd (omega arith)

  pub turns-over : (n : ℕ) (m : Lent) {l : Progress} {v : Bool} → Stepped at n (evaluate b (store_of m)) (Ok v) l → v ≡ false →
      ended l.left m ≡ turns n b body at n m
  turns-over zero m g e = none-taken m g
  turns-over (suc n) m {l} g e = ap (λ v. go n m v l.left) (sym e) ∙ turn-is (suc n) m g n refl

  pub turns-stopped : (n : ℕ) (m : Lent) {l : Progress} {r : Halt} → Stepped at n (evaluate b (store_of m)) (Err r) l →
      stopped (halt_number r) l.place l.left m ≡ turns n b body at n m
  unfolding turns
  turns-stopped zero m g = g.is m (λ v l. ended l m)
  turns-stopped (suc n) m g = turn-is (suc n) m g n refl

  -- the body stops
  pub body-stopped : (n : ℕ) (m : Lent) {l : Progress} {k p j : ℕ} {v : Bool} {m' : Lent} → Stepped at n (evaluate b (store_of m)) (Ok v) l →
      v ≡ true → stopped k p j m' ≡ body l.left m → stopped k p j m' ≡ turns n b body at n m
  body-stopped zero m g e h = none-taken m g
  body-stopped (suc n) m {l} g e h =
      ap (λ x. on_ended x (turns n b body at)) h ∙ ap (λ v. go n m v l.left) (sym e) ∙ turn-is (suc n) m g n refl

  module _ (past : ℕ) (bounded : (n : ℕ) (m : Lent) → Bounded past n (body n m)) where
    same_after : (k j l : ℕ) (e : definition.End) → Bounded past l e → l ≤ k → l ≤ j →
        ((n : ℕ) (m : Lent) → n ≤ k → n ≤ j → turns k b body at n m ≡ turns j b body at n m) →
        on_ended e (turns k b body at) ≡ on_ended e (turns j b body at)
    same_after k j l (ended n m) h x y f = f n m (omega arith) (omega arith)
    same_after k j l (stopped i p n m) h x y f = refl

    same_step : (k j n : ℕ) (m : Lent) (o : Evaluation Bool) → n ≤ suc k → n ≤ suc j →
        ((n : ℕ) (m : Lent) → n ≤ k → n ≤ j → turns k b body at n m ≡ turns j b body at n m) →
        (step at n m o λ v l. elim v [ true ↦ on_ended (body l m) (turns k b body at) | false ↦ ended l m ])
        ≡ step at n m o λ v l. elim v [ true ↦ on_ended (body l m) (turns j b body at) | false ↦ ended l m ]
    same_step k j zero m o x y f = refl
    same_step k j (suc n) m (worked true) x y f =
        same_after k j n (body n m) (bounded n m) (omega arith) (omega arith) f
    same_step k j (suc n) m (worked false) x y f = refl
    same_step k j (suc n) m (stops i) x y f = refl

    -- as many turns as steps left are enough
    turns_same : (k j n : ℕ) (m : Lent) → n ≤ k → n ≤ j → turns k b body at n m ≡ turns j b body at n m
    unfolding turns
    turns_same zero zero n m x y = refl
    turns_same zero (suc j) zero m x y = refl
    turns_same zero (suc j) (suc n) m x y = absurd (omega arith)
    turns_same (suc k) zero zero m x y = refl
    turns_same (suc k) zero (suc n) m x y = absurd (omega arith)
    turns_same (suc k) (suc j) n m x y =
        same_step k j n m (evaluate b (store_of m)) x y (λ i l p q. turns_same k j i l p q)

    pub less-after : {l k : ℕ} (m : Lent) {m' : Lent} → ended k m' ≡ body l m → k ≤ l
    less-after {l} m e = subst (Bounded past l) (sym e) (bounded l m)

    pub turns-again : (n : ℕ) (m : Lent) {l : Progress} {k : ℕ} {v : Bool} {m' : Lent} → Stepped at n (evaluate b (store_of m)) (Ok v) l →
        v ≡ true → ended k m' ≡ body l.left m → turns n b body at n m ≡ turns k b body at k m'
    turns-again zero m g e h = none-taken m g
    turns-again (suc n) m {l} {k} {m' = m'} g e h =
        let x = less-after m h in
        let y = step_less g in
        sym (ap (λ v. go n m v l.left) (sym e) ∙ turn-is (suc n) m g n refl)
        ∙ ap (λ x. on_ended x (turns n b body at)) (sym h)
        ∙ turns_same n k k m' (omega arith) (omega arith)

-- from m₀ with n₀ steps left, a loop has come to m with n
pub record LoopGoing (w ends : List ℕ) (at : ℕ) (m₀ : Lent) (n₀ : ℕ) (m : Lent) (n : ℕ) : Type 0 where
  pub within : n ≤ n₀
  pub same : (c : syntax.Command) (p : ℕ) (x : Runnable w ends c at p) →
      turns n₀ (loop_test c) (loop_body x.body_at c at) at n₀ m₀ ≡ turns n (loop_test c) (loop_body x.body_at c at) at n m

pub going_none : (w ends : List ℕ) (at : ℕ) (m : Lent) (n : ℕ) → LoopGoing w ends at m n m n
going_none w ends at m n = record { within = omega arith; same = λ c p x. refl }

module _ {w ends : List ℕ} {at : ℕ} {m₀ : Lent} {n₀ : ℕ} {m : Lent} {n : ℕ} (g : LoopGoing w ends at m₀ n₀ m n)
    {o : Evaluation Bool} (t : TestsLoop w ends at m o) where
  tests-by : {r : Result Bool Halt} {l : Progress} → Stepped at n o r l → (c : syntax.Command) (p : ℕ) (x : Runnable w ends c at p) →
      Stepped at n (evaluate (loop_test c) (store_of m)) r l
  tests-by {r} {l} s c p x = subst (λ y. Stepped at n y r l) (t.is c p x) s

  pub going_refused : {r : Halt} {l : Progress} → Stepped at n o (Err r) l →
      TurnsAs w ends at m₀ n₀ (stopped (halt_number r) l.place l.left m)
  going_refused s = record {
    is = λ c p x.
        turns-stopped (loop_test c) (loop_body x.body_at c at) at n m (tests-by s c p x) ∙ sym (g.same c p x);
  }

  module _ {v : Bool} {l : Progress} (s : Stepped at n o (Ok v) l) where
    pub going_over : v ≡ false → TurnsAs w ends at m₀ n₀ (ended l.left m)
    going_over e = record {
      is = λ c p x.
          turns-over (loop_test c) (loop_body x.body_at c at) at n m (tests-by s c p x) e ∙ sym (g.same c p x);
    }

    pub going_stopped : {k p j : ℕ} {m' : Lent} → v ≡ true → PassAs w ends at m l.left (stopped k p j m') →
        TurnsAs w ends at m₀ n₀ (stopped k p j m')
    going_stopped e f = record {
      is = λ c p x.
          body-stopped (loop_test c) (loop_body x.body_at c at) at n m (tests-by s c p x) e (f.is c p x)
          ∙ sym (g.same c p x);
    }

    module _ {k : ℕ} {m' : Lent} (y : CommandStands w ends at) (e : v ≡ true) (f : PassAs w ends at m l.left (ended k m')) where
      pub going_falls : k < n
      going_falls =
          let c = y.tree in
          let i = less-after (loop_test c) (loop_body y.there.body_at c at) at 8192 (body-bounded c y.there) m
          (f.is c y.past y.there) in
          let j = step_less s in
          omega arith

      pub going_on : LoopGoing w ends at m₀ n₀ m' k
      going_on = record {
        within = omega (arith, g.within, going_falls);
        same = λ c p x.
            g.same c p x
            ∙ turns-again (loop_test c) (loop_body x.body_at c at) at 8192 (body-bounded c x) n m (tests-by s c p x) e
            (f.is c p x);
      }
