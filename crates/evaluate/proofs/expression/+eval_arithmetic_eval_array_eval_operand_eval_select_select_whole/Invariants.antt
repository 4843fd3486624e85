-- The cycle of calls in which arithmetic and array expressions are worked out meets its contracts: what comes of an
-- expression is what comes of its operands. The measure is the words left from the expression on, four times, and 3 for an
-- operand, 2 for any arithmetic expression, 1 for an array or a select.
-- Assumes nothing.
use Prim.Native.Nat.{◌+◌}
use Rattle.evaluate.proofs.Places.{left}
use Rattle.evaluate.proofs.expression.+eval_arithmetic_eval_array_eval_operand_eval_select_select_whole.Given as goal

abbrev pub decreases-eval_arithmetic : goal.decreases-eval_arithmetic
decreases-eval_arithmetic l = left l.w.now l.at + 2

abbrev pub decreases-eval_array : goal.decreases-eval_array
decreases-eval_array l = left l.w.now l.at + 1

abbrev pub decreases-eval_operand : goal.decreases-eval_operand
decreases-eval_operand l = left l.w.now l.at + 3

abbrev pub decreases-eval_select : goal.decreases-eval_select
decreases-eval_select l = left l.w.now l.at + 1

abbrev pub decreases-select_whole : goal.decreases-select_whole
decreases-select_whole l = left l.w.now l.at
