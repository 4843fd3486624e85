-- The cycle of calls in which the three sorts are compared and substituted meets its contracts: an expression's words
-- stand there if its first word does, and then its operands. The measure is the words left from the expression on, twice; one more
-- for the function that looks for the sort.
-- Assumes nothing.
use Prim.Native.Nat.{◌+◌}
use Rattle.matching.proofs.Exchange.{left}
use Rattle.matching.proofs.expression.+match_arithmetic_match_array_match_boolean_match_expression.Given as goal

abbrev pub decreases-match_arithmetic : goal.decreases-match_arithmetic
decreases-match_arithmetic l = left l.w.now l.b

abbrev pub decreases-match_array : goal.decreases-match_array
decreases-match_array l = left l.w.now l.b

abbrev pub decreases-match_boolean : goal.decreases-match_boolean
decreases-match_boolean l = left l.w.now l.b

abbrev pub decreases-match_expression : goal.decreases-match_expression
decreases-match_expression l = left l.w.now l.b + 1
