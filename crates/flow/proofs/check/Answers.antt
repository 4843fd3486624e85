-- `flow::check` meets its contract: the answer for the outcome; demands 2 and 3 hold of any bytes.
-- Assumes nothing.
use mathlib.Core.Path.{refl}
use Rattle.flow.proofs.Answers.{exit-err, checked}
use Rattle.flow.proofs.check.Goals as goal

pub returns-in_err-accepted : goal.returns-in_err-accepted
returns-in_err-accepted c = checked _ _ c.in_err-accepted.ensures (exit-err c.from_residual.ensures.1)

pub returns : goal.returns
returns c = checked _ _ c.in_ok-accepted.ensures refl
