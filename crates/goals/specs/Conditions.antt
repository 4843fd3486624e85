-- The result of a condition that is a test.
-- Working: `tested-result` of proofs/Comes says that it is the rules' `test`. Assumes nothing.
--     condition_of    the condition of a test
use Rattle.std.specs.Prelude.{Bool, true, false, Ok, Err}
use Rattle.implication.specs.Sides.{Condition}
use Rattle.implication.specs.declared.Failure.TheVariants.{Fails}

abbrev pub condition_of : Bool → Condition
condition_of true = Ok tt
condition_of false = Err Fails
