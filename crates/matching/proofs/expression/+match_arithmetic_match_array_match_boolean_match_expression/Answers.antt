-- The cycle of calls in which the three sorts are compared and substituted meets its contracts: an expression's words
-- stand there if its first word does, and then its operands. The measure is the words left from the expression on, twice; one more
-- for the function that looks for the sort.
-- Assumes nothing.
use mathlib.Core.Path.{refl}
use native.Mathlib.Omega.{arith}
use Rattle.matching.proofs.Operands.{arithmetic-none, arithmetic-two, boolean-none, boolean-one, boolean-two}
use Rattle.matching.proofs.Operands.{array-none, array-three, is-arithmetic, is-boolean, is-array}
use Rattle.matching.proofs.Matching.{handed_on}
use Rattle.matching.proofs.Exchange.{any-first, any-of, any-listed, walked-head, walked-on, walked-all, walked-lost, head-lost}
use Rattle.matching.proofs.Exchange.{can-operand, can-sort}
use Rattle.matching.proofs.expression.+match_arithmetic_match_array_match_boolean_match_expression.Goals as goal

pub match_arithmetic-offset_bounds-w-b : goal.match_arithmetic-offset_bounds-w-b
match_arithmetic-offset_bounds-w-b t c =
    let i = any-first (any-of c.requires) in omega arith

pub match_arithmetic-bounds-w-b : goal.match_arithmetic-bounds-w-b
match_arithmetic-bounds-w-b t c =
    any-first (any-of c.requires)

pub match_arithmetic-returns-in_err-head : goal.match_arithmetic-returns-in_err-head
match_arithmetic-returns-in_err-head t c =
    let p = c.requires in head-lost p.ends_of (any-of p) c.in_err-head.ensures (handed_on c.from_residual.ensures.1)

pub match_arithmetic-returns-then-x-lt-OPERATOR : goal.match_arithmetic-returns-then-x-lt-OPERATOR
match_arithmetic-returns-then-x-lt-OPERATOR t c =
    let p = c.requires in
    walked-all (walked-head 0 (any-first (any-of p)) c.in_ok-head.ensures (arithmetic-none p.ends_of p.expression c.if-x-lt-OPERATOR.true))

pub match_arithmetic-overflow_add-b : goal.match_arithmetic-overflow_add-b
match_arithmetic-overflow_add-b t c =
    let i = any-first (any-of c.requires) in omega arith

pub match_arithmetic-overflow_add-b-2 : goal.match_arithmetic-overflow_add-b-2
match_arithmetic-overflow_add-b-2 t c =
    let i = any-first (any-of c.requires) in omega arith

pub match_arithmetic-match_expression-requires : goal.match_arithmetic-match_expression-requires
match_arithmetic-match_expression-requires t c =
    let p = c.requires in
    can-operand p (walked-head 2 (any-first (any-of p)) c.in_ok-head.ensures (arithmetic-two p.ends_of p.expression c.if-x-lt-OPERATOR.false)) c.decreases

pub match_arithmetic-returns-in_err-left : goal.match_arithmetic-returns-in_err-left
match_arithmetic-returns-in_err-left t c =
    let p = c.requires in
    walked-lost (any-of p)
    (walked-on (walked-head 2 (any-first (any-of p)) c.in_ok-head.ensures (arithmetic-two p.ends_of p.expression c.if-x-lt-OPERATOR.false)) c.in_err-left.ensures refl)
    (handed_on c.from_residual-in_err-left.ensures.1)

pub match_arithmetic-end_at-second-requires : goal.match_arithmetic-end_at-second-requires
match_arithmetic-end_at-second-requires t c =
    let p = c.requires in
    any-listed p.ends_of (arithmetic-two p.ends_of p.expression c.if-x-lt-OPERATOR.false).0

pub match_arithmetic-match_expression-requires-2 : goal.match_arithmetic-match_expression-requires-2
match_arithmetic-match_expression-requires-2 t c =
    let p = c.requires in
    can-operand p
    (walked-on (walked-head 2 (any-first (any-of p)) c.in_ok-head.ensures (arithmetic-two p.ends_of p.expression c.if-x-lt-OPERATOR.false)) c.in_ok-left.ensures c.end_at-second.ensures)
    c.decreases

pub match_arithmetic-returns : goal.match_arithmetic-returns
match_arithmetic-returns t c =
    let p = c.requires in
    walked-all
    (walked-on
    (walked-on (walked-head 2 (any-first (any-of p)) c.in_ok-head.ensures (arithmetic-two p.ends_of p.expression c.if-x-lt-OPERATOR.false)) c.in_ok-left.ensures c.end_at-second.ensures)
    c.match_expression-2.ensures refl)

pub match_boolean-offset_bounds-w-b : goal.match_boolean-offset_bounds-w-b
match_boolean-offset_bounds-w-b t c =
    let i = any-first (any-of c.requires) in omega arith

pub match_boolean-bounds-w-b : goal.match_boolean-bounds-w-b
match_boolean-bounds-w-b t c =
    any-first (any-of c.requires)

pub match_boolean-returns-in_err-head : goal.match_boolean-returns-in_err-head
match_boolean-returns-in_err-head t c =
    let p = c.requires in head-lost p.ends_of (any-of p) c.in_err-head.ensures (handed_on c.from_residual.ensures.1)

pub match_boolean-returns-then-kind-eq-TRUTH : goal.match_boolean-returns-then-kind-eq-TRUTH
match_boolean-returns-then-kind-eq-TRUTH t c =
    let p = c.requires in
    walked-all (walked-head 0 (any-first (any-of p)) c.in_ok-head.ensures (boolean-none p.ends_of p.expression c.if-kind-eq-TRUTH.true))

pub match_boolean-overflow_add-b : goal.match_boolean-overflow_add-b
match_boolean-overflow_add-b t c =
    let i = any-first (any-of c.requires) in omega arith

pub match_boolean-match_expression-requires : goal.match_boolean-match_expression-requires
match_boolean-match_expression-requires t c =
    let p = c.requires in
    can-operand p (walked-head 1 (any-first (any-of p)) c.in_ok-head.ensures (boolean-one p.ends_of p.expression c.if-kind-eq-NOT.true)) c.decreases

pub match_boolean-returns-then-kind-eq-NOT : goal.match_boolean-returns-then-kind-eq-NOT
match_boolean-returns-then-kind-eq-NOT t c =
    let p = c.requires in
    walked-all (walked-on (walked-head 1 (any-first (any-of p)) c.in_ok-head.ensures (boolean-one p.ends_of p.expression c.if-kind-eq-NOT.true)) c.match_expression.ensures refl)

pub match_boolean-overflow_add-b-2 : goal.match_boolean-overflow_add-b-2
match_boolean-overflow_add-b-2 t c =
    let i = any-first (any-of c.requires) in omega arith

pub match_boolean-overflow_add-b-3 : goal.match_boolean-overflow_add-b-3
match_boolean-overflow_add-b-3 t c =
    let i = any-first (any-of c.requires) in omega arith

pub match_boolean-match_expression-requires-2 : goal.match_boolean-match_expression-requires-2
match_boolean-match_expression-requires-2 t c =
    let p = c.requires in
    can-operand p (walked-head 2 (any-first (any-of p)) c.in_ok-head.ensures (boolean-two p.ends_of p.expression c.if-kind-eq-TRUTH.false c.if-kind-eq-NOT.false)) c.decreases

pub match_boolean-returns-in_err-left : goal.match_boolean-returns-in_err-left
match_boolean-returns-in_err-left t c =
    let p = c.requires in
    walked-lost (any-of p)
    (walked-on (walked-head 2 (any-first (any-of p)) c.in_ok-head.ensures (boolean-two p.ends_of p.expression c.if-kind-eq-TRUTH.false c.if-kind-eq-NOT.false)) c.in_err-left.ensures refl)
    (handed_on c.from_residual-in_err-left.ensures.1)

pub match_boolean-end_at-second-requires : goal.match_boolean-end_at-second-requires
match_boolean-end_at-second-requires t c =
    let p = c.requires in
    any-listed p.ends_of (boolean-two p.ends_of p.expression c.if-kind-eq-TRUTH.false c.if-kind-eq-NOT.false).0

pub match_boolean-match_expression-requires-3 : goal.match_boolean-match_expression-requires-3
match_boolean-match_expression-requires-3 t c =
    let p = c.requires in
    can-operand p
    (walked-on (walked-head 2 (any-first (any-of p)) c.in_ok-head.ensures (boolean-two p.ends_of p.expression c.if-kind-eq-TRUTH.false c.if-kind-eq-NOT.false)) c.in_ok-left.ensures c.end_at-second.ensures)
    c.decreases

pub match_boolean-returns : goal.match_boolean-returns
match_boolean-returns t c =
    let p = c.requires in
    walked-all
    (walked-on
    (walked-on (walked-head 2 (any-first (any-of p)) c.in_ok-head.ensures (boolean-two p.ends_of p.expression c.if-kind-eq-TRUTH.false c.if-kind-eq-NOT.false)) c.in_ok-left.ensures c.end_at-second.ensures)
    c.match_expression-3.ensures refl)

pub match_array-offset_bounds-w-b : goal.match_array-offset_bounds-w-b
match_array-offset_bounds-w-b t c =
    let i = any-first (any-of c.requires) in omega arith

pub match_array-bounds-w-b : goal.match_array-bounds-w-b
match_array-bounds-w-b t c =
    any-first (any-of c.requires)

pub match_array-returns-in_err-head : goal.match_array-returns-in_err-head
match_array-returns-in_err-head t c =
    let p = c.requires in head-lost p.ends_of (any-of p) c.in_err-head.ensures (handed_on c.from_residual.ensures.1)

pub match_array-returns-then-x-lt-UPDATE : goal.match_array-returns-then-x-lt-UPDATE
match_array-returns-then-x-lt-UPDATE t c =
    let p = c.requires in
    walked-all (walked-head 0 (any-first (any-of p)) c.in_ok-head.ensures (array-none p.ends_of p.expression c.if-x-lt-UPDATE.true))

pub match_array-overflow_add-b : goal.match_array-overflow_add-b
match_array-overflow_add-b t c =
    let i = any-first (any-of c.requires) in omega arith

pub match_array-overflow_add-b-2 : goal.match_array-overflow_add-b-2
match_array-overflow_add-b-2 t c =
    let i = any-first (any-of c.requires) in omega arith

pub match_array-match_expression-requires : goal.match_array-match_expression-requires
match_array-match_expression-requires t c =
    let p = c.requires in
    can-operand p (walked-head 3 (any-first (any-of p)) c.in_ok-head.ensures (array-three p.ends_of p.expression c.if-x-lt-UPDATE.false)) c.decreases

pub match_array-returns-in_err-array : goal.match_array-returns-in_err-array
match_array-returns-in_err-array t c =
    let p = c.requires in
    walked-lost (any-of p)
    (walked-on (walked-head 3 (any-first (any-of p)) c.in_ok-head.ensures (array-three p.ends_of p.expression c.if-x-lt-UPDATE.false)) c.in_err-array.ensures refl)
    (handed_on c.from_residual-in_err-array.ensures.1)

pub match_array-end_at-second-requires : goal.match_array-end_at-second-requires
match_array-end_at-second-requires t c =
    let p = c.requires in
    any-listed p.ends_of (array-three p.ends_of p.expression c.if-x-lt-UPDATE.false).0

pub match_array-match_expression-requires-2 : goal.match_array-match_expression-requires-2
match_array-match_expression-requires-2 t c =
    let p = c.requires in
    can-operand p
    (walked-on (walked-head 3 (any-first (any-of p)) c.in_ok-head.ensures (array-three p.ends_of p.expression c.if-x-lt-UPDATE.false)) c.in_ok-array.ensures c.end_at-second.ensures)
    c.decreases

pub match_array-returns-in_err-index : goal.match_array-returns-in_err-index
match_array-returns-in_err-index t c =
    let p = c.requires in
    walked-lost (any-of p)
    (walked-on
    (walked-on (walked-head 3 (any-first (any-of p)) c.in_ok-head.ensures (array-three p.ends_of p.expression c.if-x-lt-UPDATE.false)) c.in_ok-array.ensures c.end_at-second.ensures)
    c.in_err-index.ensures refl)
    (handed_on c.from_residual-in_err-index.ensures.1)

pub match_array-end_at-third-requires : goal.match_array-end_at-third-requires
match_array-end_at-third-requires t c =
    let p = c.requires in
    let w = (walked-on (walked-head 3 (any-first (any-of p)) c.in_ok-head.ensures (array-three p.ends_of p.expression c.if-x-lt-UPDATE.false)) c.in_ok-array.ensures c.end_at-second.ensures) in
    any-listed p.ends_of w.left.0

pub match_array-match_expression-requires-3 : goal.match_array-match_expression-requires-3
match_array-match_expression-requires-3 t c =
    let p = c.requires in
    can-operand p
    (walked-on (walked-on (walked-head 3 (any-first (any-of p)) c.in_ok-head.ensures (array-three p.ends_of p.expression c.if-x-lt-UPDATE.false)) c.in_ok-array.ensures c.end_at-second.ensures) c.in_ok-index.ensures c.end_at-third.ensures)
    c.decreases

pub match_array-returns : goal.match_array-returns
match_array-returns t c =
    let p = c.requires in
    walked-all
    (walked-on
    (walked-on (walked-on (walked-head 3 (any-first (any-of p)) c.in_ok-head.ensures (array-three p.ends_of p.expression c.if-x-lt-UPDATE.false)) c.in_ok-array.ensures c.end_at-second.ensures) c.in_ok-index.ensures c.end_at-third.ensures)
    c.match_expression-3.ensures refl)

pub match_expression-offset_bounds-w-b : goal.match_expression-offset_bounds-w-b
match_expression-offset_bounds-w-b t c = let p = c.requires in let i = any-first p.any in omega arith

pub match_expression-bounds-w-b : goal.match_expression-bounds-w-b
match_expression-bounds-w-b t c = let p = c.requires in any-first p.any

pub match_expression-match_arithmetic-requires : goal.match_expression-match_arithmetic-requires
match_expression-match_arithmetic-requires t c =
    let p = c.requires in
    can-sort c.decreases p (is-arithmetic p.ends_of p.any.sort p.any.expression c.if-kind-lt-COMPARISON.true)

pub match_expression-match_boolean-requires : goal.match_expression-match_boolean-requires
match_expression-match_boolean-requires t c =
    let p = c.requires in
    can-sort c.decreases p
    (is-boolean p.ends_of p.any.sort p.any.expression c.if-kind-lt-COMPARISON.false c.if-kind-lt-ARRAY.true)

pub match_expression-match_array-requires : goal.match_expression-match_array-requires
match_expression-match_array-requires t c =
    let p = c.requires in
    can-sort c.decreases p (is-array p.ends_of p.any.sort p.any.expression c.if-kind-lt-ARRAY.false)
