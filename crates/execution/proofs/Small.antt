-- Identifiers below 32: what an expression, an assignment and a command name.
-- Assumes nothing.
--     SmallExpression, SmallAssignment, SmallCommand
use Prim.Native.Nat.{◌<◌}
use Rattle.language.specs.Syntax.{Sort, Expr, constant, scalar, operation, select, compare, truth, and, or, neg}
use Rattle.language.specs.Syntax.{array, zeros, update, Assignment, to_scalar, to_array}
use Rattle.language.specs.Syntax.{Command, skip, sequence, assert, assign, if_else, while, for, call}

-- every scalar and array of the expression is below 32
unfoldable pub SmallExpression : {k : Sort} → Expr k → Type 0
SmallExpression (constant z) = Unit {0}
SmallExpression (scalar x) = x < 32
SmallExpression (operation o a b) = SmallExpression a × SmallExpression b
SmallExpression (select h i) = SmallExpression h × SmallExpression i
SmallExpression (compare r a b) = SmallExpression a × SmallExpression b
SmallExpression (truth t) = Unit {0}
SmallExpression (and b c) = SmallExpression b × SmallExpression c
SmallExpression (or b c) = SmallExpression b × SmallExpression c
SmallExpression (neg b) = SmallExpression b
SmallExpression (array a) = a < 32
SmallExpression zeros = Unit {0}
SmallExpression (update h i a) = SmallExpression h × SmallExpression i × SmallExpression a

-- also the one that is assigned
unfoldable pub SmallAssignment : Assignment → Type 0
SmallAssignment (to_scalar x e) = (x < 32) × SmallExpression e
SmallAssignment (to_array a e) = (a < 32) × SmallExpression e

-- also q and m of a `for`
unfoldable pub SmallCommand : Command → Type 0
SmallCommand skip = Unit {0}
SmallCommand (sequence c d) = SmallCommand c × SmallCommand d
SmallCommand (assert b) = SmallExpression b
SmallCommand (assign a) = SmallAssignment a
SmallCommand (if_else b c d) = SmallExpression b × SmallCommand c × SmallCommand d
SmallCommand (while b c) = SmallExpression b × SmallCommand c
SmallCommand (for q m c) = (q < 32) × (m < 32) × SmallCommand c
SmallCommand (call n c) = SmallCommand c
