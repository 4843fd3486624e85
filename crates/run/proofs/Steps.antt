-- One step, as the code takes it and as the definition has it.
-- Assumes nothing.
--     step_less                                  a step that is taken leaves one less
--     refused, ended_as                          a result as an end
--     given-step, step-worked                    an assignment's step, and one with no operands
--     filled-step                                a step whose operand is in the scratch
use mathlib.Core.Path.{◌≡◌, refl, ap}
use mathlib.Core.List.{List, []}
use Prim.Native.Nat.{ℕ, zero, suc, ◌<◌}
use native.Mathlib.Omega.{arith}
use lib.IntN.{ℤ}
use Rattle.std.specs.Prelude.{Result, Ok, Err, IsErrAnd}
use Rattle.execution.specs.Lent.{Lent, lent}
use Rattle.execution.specs.Evaluate.{Evaluation, worked, stops, on_worked}
use Rattle.execution.specs.Run.{End, ended, stopped, step}
use Rattle.arithmetic.specs.Worked.{outcome}
use Rattle.arithmetic.specs.declared.Stop.{Stop}
use Rattle.evaluate.specs.Evaluated.{filled}
use Rattle.run.specs.declared.Halt.{Halt}
use Rattle.run.specs.declared.Progress.{Progress}
use Rattle.run.specs.Steps.{halt_number, end_of, after_step, Stepped}

less : {A : Type 0} (at n l : ℕ) (o : Evaluation A) (m : Lent) → ended l m ≡ step at n m o (λ a k. ended k m) → l < n
less at zero l o m e = absurd (cc)
less at (suc n) l (worked a) m e = let q : l ≡ n = cc in omega arith
less at (suc n) l (stops k) m e = absurd (cc)

pub step_less : {A : Type 0} {at n : ℕ} {l : Progress} {o : Evaluation A} {a : A} → Stepped at n o (Ok a) l → l.left < n
step_less {at = at} {n} {l} {o} g =
    let m = lent [] [] in less at n l.left o m (g.is m (λ a k. ended k m))

-- ---- a result as an end
pub refused : {A : Type 0} (r : Result A Halt) (e : Halt) (s : Progress) (m : Lent) → IsErrAnd r (λ d. d ≡ e) →
    end_of r s m ≡ stopped (halt_number e) s.place s.left m
refused (Ok a) e s m h = absurd h
refused (Err d) e s m h = ap (λ d. stopped (halt_number d) s.place s.left m) h

pub ended_as : {A : Type 0} (r : Result A Halt) (s : Progress) (m : Lent) → end_of r s m ≡ after_step r s m λ a l. ended l m
ended_as (Ok a) s m = refl
ended_as (Err d) s m = refl

-- an assignment's step, by the value
pub given-step : {A : Type 0} (at n : ℕ) (m : Lent) (o : Evaluation A) (g : A → Lent) →
    (step at n m o λ v l. ended l (g v)) ≡ step at n m (on_worked o λ v. worked (g v)) λ m' l. ended l m'
given-step at zero m o g = refl
given-step at (suc n) m (worked v) g = refl
given-step at (suc n) m (stops k) g = refl

-- a step whose operands come to something is the same for whatever they come to
pub step-worked : {A B : Type 0} (at n : ℕ) (m : Lent) (a : A) (b : B) (f : B → ℕ → End) →
    (step at n m (worked a) λ z l. f b l) ≡ step at n m (worked b) f
step-worked at zero m a b f = refl
step-worked at (suc n) m a b f = refl

-- what is worked out is in the scratch
pub filled-step : {A : Type 0} (at n : ℕ) (m : Lent) (r : Result A Stop) (l : List ℤ) (f : List ℤ → ℕ → End) →
    (step at n m (outcome r) λ a k. f l k) ≡ step at n m (filled r l) f
filled-step at zero m r l f = refl
filled-step at (suc n) m (Ok a) l f = refl
filled-step at (suc n) m (Err k) l f = refl
