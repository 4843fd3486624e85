-- What one step does, by the steps left and what its operands came to.
-- Working: the laws of proofs/Steps tie it to the definition's `step`. Assumes nothing.
--     halt_number, halt_of   the number of the refusal; what stops a run where an expression stops
--     end_of                 a result, with the steps and the store then, as an end of the definition
--     after_step, Stepped    a step is taken, or refused
use Rattle.std.specs.Prelude.{◌≡◌, ℕ, Result, Ok, Err}
use Rattle.execution.specs.Lent.{Lent}
use Rattle.execution.specs.Evaluate.{Evaluation}
use Rattle.execution.specs.Run as definition
use Rattle.execution.specs.Run.{ended, stopped, step}
use Rattle.arithmetic.specs.declared.Stop.{Stop}
use Rattle.arithmetic.specs.declared.Stop.TheVariants as stop
use Rattle.run.specs.declared.Halt.{Halt}
use Rattle.run.specs.declared.Halt.TheVariants.{FalseAssertion, NoStepLeft, OutOfRange, BadIndex}
use Rattle.run.specs.declared.Progress.{Progress}

abbrev pub halt_number : Halt → ℕ
halt_number FalseAssertion = 12
halt_number NoStepLeft = 13
halt_number OutOfRange = 14
halt_number BadIndex = 15

abbrev pub halt_of : Stop → Halt
halt_of stop.OutOfRange = OutOfRange
halt_of stop.BadIndex = BadIndex

abbrev pub end_of : {A : Type 0} → Result A Halt → Progress → Lent → definition.End
end_of (Ok a) s m = ended s.left m
end_of (Err h) s m = stopped (halt_number h) s.place s.left m

-- what follows a step that is taken
abbrev pub after_step : {A : Type 0} → Result A Halt → Progress → Lent → (A → ℕ → definition.End) → definition.End
after_step (Ok a) s m f = f a s.left
after_step (Err h) s m f = stopped (halt_number h) s.place s.left m

-- with n steps left, operands that came to o, the result r and then the steps s
pub record Stepped {A : Type 0} (at n : ℕ) (o : Evaluation A) (r : Result A Halt) (s : Progress) : Type 0 where
  pub is : (m : Lent) (f : A → ℕ → definition.End) → after_step r s m f ≡ step at n m o f
