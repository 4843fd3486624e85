-- What the arithmetic answers, as outcomes of the runner's definition.
-- Working: `operation-second`, `select-second` and `update-third` of evaluate/proofs/Results tie outcomes to the
-- definition's `evaluate`. Assumes nothing.
--     refusal_number            the number of the refusal that a stop is
--     outcome, index_outcome    a result or a stop, an index or a stop
--     checked                  a value in the signed 64-bit range, or refusal 14
use Rattle.std.specs.Prelude.{ℕ, ℤ, pos, Result, Ok, Err}
use Rattle.execution.specs.Evaluate.{Evaluation, worked, stops, in_range, tested}
use Rattle.arithmetic.specs.declared.Stop.{Stop}
use Rattle.arithmetic.specs.declared.Stop.TheVariants.{OutOfRange, BadIndex}

abbrev pub refusal_number : Stop → ℕ
refusal_number OutOfRange = 14
refusal_number BadIndex = 15

abbrev pub outcome : {A : Type 0} → Result A Stop → Evaluation A
outcome (Ok a) = worked a
outcome (Err k) = stops (refusal_number k)

abbrev pub index_outcome : Result ℕ Stop → Evaluation ℤ
index_outcome (Ok n) = worked (pos n)
index_outcome (Err k) = stops (refusal_number k)

unfoldable pub checked : ℤ → Evaluation ℤ
checked z = tested (in_range z) 14 z
