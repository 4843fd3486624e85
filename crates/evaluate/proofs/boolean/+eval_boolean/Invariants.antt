-- `evaluate::boolean::eval_boolean` meets its contract: what comes of an expression is what comes of its operands. The
-- measure is the words left from the expression on.
-- Assumes nothing.
use Rattle.evaluate.proofs.Places.{left}
use Rattle.evaluate.proofs.boolean.+eval_boolean.Given as goal

abbrev pub decreases-eval_boolean : goal.decreases-eval_boolean
decreases-eval_boolean l = left l.w.now l.at
