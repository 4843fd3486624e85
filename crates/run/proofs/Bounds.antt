-- The steps left never grow, a turn takes one, and a run stops at a word of its command or of a body that it calls.
-- Assumes nothing.
--     Bounded                         an end has at most so many steps left, and stops before a place
--     CallsWithin, calls-within       the bodies that a command calls end at a place or before it
--     run-bounded                     a run is bounded
--     command-bounded, body-bounded   the same of a command that can be run, and of the body of a loop
--     run-within                      the steps left after a run
use mathlib.Core.Path.{◌≡◌, sym, subst}
use mathlib.Core.Bool.{Bool, true, false, cond}
use mathlib.Core.List.{List, ◌++◌}
use mathlib.Core.Option.{some}
use Prim.Native.Nat.{ℕ, zero, suc, ◌+◌, ◌<◌, ◌≤◌}
use native.Mathlib.Omega.{arith}
use lib.ListN.{length, length-append}
use Rattle.language.specs.Syntax as syntax
use Rattle.language.specs.Syntax.{Expr, scalar, compare, at_most, Assignment, to_scalar, to_array}
use Rattle.language.specs.Syntax.{skip, sequence, assert, assign, if_else, while, for, call}
use Rattle.language.specs.Runs.{start, increment}
use Rattle.rules.specs.Words.{words, command_words}
use Rattle.rules.specs.Context.{Procedure, Context, item_at}
use Rattle.rules.specs.Resolved.{Resolved}
use Rattle.execution.specs.Lent.{Lent, store_of}
use Rattle.execution.specs.Evaluate.{Evaluation, worked, stops, evaluate}
use Rattle.execution.specs.Run.{End, ended, stopped, on_ended, step, given, assigns, turns, run}
use Rattle.heads.specs.Stands.{PartAt, resolved_part, Runnable, CommandStands}
use Rattle.heads.proofs.Parts.{resolved-inside}
use Rattle.run.specs.Places.{RunsAs}
use Rattle.run.specs.Turns.{loop_body}
use Rattle.run.proofs.Bodies.{part_end}

abbrev pub Bounded : ℕ → ℕ → End → Type 0
Bounded b n (ended l m) = l ≤ n
Bounded b n (stopped k p l m) = (l ≤ n) × (p < b)

-- the bodies that are called, by their places, also by calls in them, end at b or before
abbrev pub CallsWithin : ℕ → (ℕ → ℕ) → syntax.Command → Type 0
CallsWithin b body_at skip = Unit {0}
CallsWithin b body_at (sequence c d) = CallsWithin b body_at c × CallsWithin b body_at d
CallsWithin b body_at (assert t) = Unit {0}
CallsWithin b body_at (assign a) = Unit {0}
CallsWithin b body_at (if_else t c d) = CallsWithin b body_at c × CallsWithin b body_at d
CallsWithin b body_at (while t c) = CallsWithin b body_at c
CallsWithin b body_at (for q r c) = CallsWithin b body_at c
CallsWithin b body_at (call n c) = (body_at n + length (command_words c) ≤ b) × CallsWithin b body_at c

module _ (b : ℕ) where
  bounded_up : {l n : ℕ} → l ≤ n → (e : End) → Bounded b l e → Bounded b n e
  bounded_up h (ended k m) x = omega arith
  bounded_up h (stopped k p l m) x = (omega (arith, x.0), x.1)

  ended-bounded : (n : ℕ) (e : End) (f : ℕ → Lent → End) → Bounded b n e → ((l : ℕ) (m : Lent) → Bounded b l (f l m)) →
      Bounded b n (on_ended e f)
  ended-bounded n (ended l m) f x g = bounded_up x (f l m) (g l m)
  ended-bounded n (stopped k p l m) f x g = x

  step-bounded : {A : Type 0} (at n : ℕ) (m : Lent) (o : Evaluation A) (f : A → ℕ → End) → at < b →
      ((v : A) (l : ℕ) → l < n → Bounded b n (f v l)) → Bounded b n (step at n m o f)
  step-bounded at zero m o f i g = (omega arith, i)
  step-bounded at (suc n) m (worked v) f i g = g v n (omega arith)
  step-bounded at (suc n) m (stops k) f i g = (omega arith, i)

  assigns-bounded : (a : Assignment) (at n : ℕ) (m : Lent) → at < b → Bounded b n (assigns a at n m)
  assigns-bounded a at n m i = step-bounded at n m (given a m) (λ m' l. ended l m') i (λ v l h. omega arith)

  cond-bounded : (n : ℕ) (v : Bool) (x y : End) → Bounded b n x → Bounded b n y → Bounded b n (cond v x y)
  cond-bounded n true x y p q = p
  cond-bounded n false x y p q = q

  choice-bounded : (n l : ℕ) → l < n → (v : Bool) (x y : End) → Bounded b l x → Bounded b l y →
      Bounded b n (elim v [ true ↦ x | false ↦ y ])
  choice-bounded n l h true x y p q = bounded_up (omega arith) x p
  choice-bounded n l h false x y p q = bounded_up (omega arith) y q

  turns-bounded : (k : ℕ) (t : Expr syntax.Boolean) (body : ℕ → Lent → End) (at : ℕ) → at < b →
      ((n : ℕ) (m : Lent) → Bounded b n (body n m)) → (n : ℕ) (m : Lent) → Bounded b n (turns k t body at n m)
  unfolding turns
  turns-bounded zero t body at i g n m = (omega arith, i)
  turns-bounded (suc k) t body at i g n m =
      step-bounded at n m (evaluate t (store_of m))
      (λ v l. elim v [ true ↦ on_ended (body l m) (turns k t body at) | false ↦ ended l m ]) i
      (λ v l h. choice-bounded n l h v (on_ended (body l m) (turns k t body at)) (ended l m)
      (ended-bounded l (body l m) (turns k t body at) (g l m) (turns-bounded k t body at i g)) (omega arith))

  pub run-bounded : (body_at : ℕ → ℕ) (c : syntax.Command) (at n : ℕ) (m : Lent) → at + length (command_words c) ≤ b →
      CallsWithin b body_at c → Bounded b n (run body_at c at n m)
  unfolding run command_words
  run-bounded body_at skip at n m i w =
      step-bounded at n m (worked m) (λ m' l. ended l m') (omega arith) (λ v l h. omega arith)
  run-bounded body_at (sequence c d) at n m i w =
      let e = length-append (command_words c) (command_words d) in
      ended-bounded n (run body_at c (at + 1) n m) (run body_at d (at + 1 + length (command_words c)))
      (run-bounded body_at c (at + 1) n m (omega arith) w.0)
      (λ l k. run-bounded body_at d (at + 1 + length (command_words c)) l k (omega arith) w.1)
  run-bounded body_at (assert t) at n m i w =
      let h : at < b = omega arith in
      step-bounded at n m (evaluate t (store_of m)) (λ v l. cond v (ended l m) (stopped 12 at n m)) h
      (λ v l k. cond-bounded n v (ended l m) (stopped 12 at n m) (omega arith) (omega arith, h))
  run-bounded body_at (assign (to_scalar x e)) at n m i w = assigns-bounded (to_scalar x e) at n m (omega arith)
  run-bounded body_at (assign (to_array a e)) at n m i w = assigns-bounded (to_array a e) at n m (omega arith)
  run-bounded body_at (if_else t c d) at n m i w =
      let e = length-append (words t) (command_words c ++ command_words d) in
      let f = length-append (command_words c) (command_words d) in
      step-bounded at n m (evaluate t (store_of m))
      (λ v l. elim v [
        | true ↦ run body_at c (at + 1 + length (words t)) l m
        | false ↦ run body_at d (at + 1 + length (words t) + length (command_words c)) l m
      ]) (omega arith)
      (λ v l h. choice-bounded n l h v (run body_at c (at + 1 + length (words t)) l m)
      (run body_at d (at + 1 + length (words t) + length (command_words c)) l m)
      (run-bounded body_at c (at + 1 + length (words t)) l m (omega arith) w.0)
      (run-bounded body_at d (at + 1 + length (words t) + length (command_words c)) l m (omega arith) w.1))
  run-bounded body_at (while t c) at n m i w =
      let e = length-append (words t) (command_words c) in
      turns-bounded n t (run body_at c (at + 1 + length (words t))) at (omega arith)
      (λ k l. run-bounded body_at c (at + 1 + length (words t)) k l (omega arith) w) n m
  run-bounded body_at (for q r c) at n m i w =
      let h : at < b = omega arith in
      ended-bounded n (assigns (start q) at n m)
      (λ l m'. turns l (compare at_most (scalar q) (scalar r))
      (λ k m''. on_ended (run body_at c (at + 1) k m'') (assigns (increment q) at)) at l m')
      (assigns-bounded (start q) at n m h)
      (λ l m'. turns-bounded l (compare at_most (scalar q) (scalar r))
      (λ k m''. on_ended (run body_at c (at + 1) k m'') (assigns (increment q) at)) at h
      (λ k m''. ended-bounded k (run body_at c (at + 1) k m'') (assigns (increment q) at)
      (run-bounded body_at c (at + 1) k m'' (omega arith) w) (λ i j. assigns-bounded (increment q) at i j h)) l m')
  run-bounded body_at (call p c) at n m i w =
      step-bounded at n m (worked m) (λ m' l. run body_at c (body_at p) l m') (omega arith)
      (λ v l h. bounded_up (omega arith) (run body_at c (body_at p) l v)
      (run-bounded body_at c (body_at p) l v w.0 w.1))

  body-before : (body_at : ℕ → ℕ) (c : syntax.Command) (at n : ℕ) (m : Lent) → at + length (command_words c) ≤ b →
      CallsWithin b body_at c → Bounded b n (loop_body body_at c at n m)
  unfolding command_words
  body-before body_at skip at n m i w = omega arith
  body-before body_at (sequence c d) at n m i w = omega arith
  body-before body_at (assert t) at n m i w = omega arith
  body-before body_at (assign a) at n m i w = omega arith
  body-before body_at (if_else t c d) at n m i w = omega arith
  body-before body_at (while t c) at n m i w =
      let e = length-append (words t) (command_words c) in
      run-bounded body_at c (at + 1 + length (words t)) n m (omega arith) w
  body-before body_at (for q r c) at n m i w =
      ended-bounded n (run body_at c (at + 1) n m) (assigns (increment q) at)
      (run-bounded body_at c (at + 1) n m (omega arith) w)
      (λ k l. assigns-bounded (increment q) at k l (omega arith))
  body-before body_at (call p c) at n m i w = omega arith

-- by the bodies of the procedures that it may call
module _ (l : List Procedure) (b : ℕ) (body_at : ℕ → ℕ)
    (f : (n : ℕ) (k : Procedure) → item_at l n ≡ some k → body_at n + length (command_words k.body) ≤ b) where
  pub calls-within : (c : syntax.Command) → Resolved l c → CallsWithin b body_at c
  calls-within skip r = tt
  calls-within (sequence c d) r = (calls-within c r.0, calls-within d r.1)
  calls-within (assert t) r = tt
  calls-within (assign a) r = tt
  calls-within (if_else t c d) r = (calls-within c r.0, calls-within d r.1)
  calls-within (while t c) r = calls-within c r
  calls-within (for q m c) r = calls-within c r
  calls-within (call n c) (k, e, h, r) =
      (subst (λ d. body_at n + length (command_words d) ≤ b) (sym h) (f n k e), calls-within c r)

-- ---- of a command that can be run, in a room of 8,192 words
module _ {w ends : List ℕ} where
  in_room : (Γ : Context) (c : syntax.Command) {at p : ℕ} → PartAt w ends (resolved_part Γ c) at p →
      at + length (command_words c) ≤ 8192
  in_room Γ c s =
      let i = (resolved-inside Γ c s).small in
      let q = part_end (resolved_part Γ c) s in
      omega (arith, i, q)

  module _ (c : syntax.Command) {at p : ℕ} (x : Runnable w ends c at p) where
    called-within : CallsWithin 8192 x.body_at c
    called-within =
        calls-within x.context.procedures 8192 x.body_at
        (λ n k e. in_room x.context k.body (x.bodies.known n k e).there) c x.there.stands.fit.1

    pub command-bounded : (n : ℕ) (m : Lent) → Bounded 8192 n (run x.body_at c at n m)
    command-bounded n m = run-bounded 8192 x.body_at c at n m (in_room x.context c x.there) called-within

    pub body-bounded : (n : ℕ) (m : Lent) → Bounded 8192 n (loop_body x.body_at c at n m)
    body-bounded n m = body-before 8192 x.body_at c at n m (in_room x.context c x.there) called-within

-- the steps left after a run of the command that stands there
pub run-within : {w ends : List ℕ} {at n l : ℕ} {m m' : Lent} → CommandStands w ends at →
    RunsAs w ends at m n (ended l m') → l ≤ n
run-within {n = n} {m = m} x f =
    subst (Bounded 8192 n) (sym (f.is x.tree x.past x.there)) (command-bounded x.tree x.there n m)
