-- `ends::mask::mark` meets its contract, kind by kind.
-- Assumes nothing.
use native.Mathlib.Omega.{arith}
use Rattle.ends.proofs.Marks.{unwritten, unwritten-below, unwritten-above}
use Rattle.ends.proofs.Marks.{mark-none, mark-scalar, mark-array, mark-for, mark-call}
use Rattle.ends.proofs.mask.mark.Goals as goal

pub returns-then-kind-lt-TO_SCALAR : goal.returns-then-kind-lt-TO_SCALAR
returns-then-kind-lt-TO_SCALAR c = mark-none _ _ _ _ (unwritten-below _ _ _ c.if-kind-lt-TO_SCALAR.true)

pub returns-then-kind-eq-TO_SCALAR : goal.returns-then-kind-eq-TO_SCALAR
returns-then-kind-eq-TO_SCALAR c = mark-scalar _ _ _ _ c.if-kind-eq-TO_SCALAR.true c.with_bit.ensures

pub returns-then-kind-eq-CALL : goal.returns-then-kind-eq-CALL
returns-then-kind-eq-CALL c = mark-call _ _ _ _ c.if-kind-eq-CALL.true c.procedure_mask.ensures

pub returns-then-kind-gt-FOR : goal.returns-then-kind-gt-FOR
returns-then-kind-gt-FOR c = mark-none _ _ _ _ (unwritten-above _ _ _ c.if-kind-gt-FOR.true c.if-kind-eq-CALL.false)

pub returns-in-28 : goal.returns-in-28
returns-in-28 c = mark-array _ _ _ _ c.in-28.is c.with_bit-in-28.ensures

pub returns-in-31 : goal.returns-in-31
returns-in-31 c = mark-for _ _ _ _ c.in-31.is c.with_bit-in-31.ensures

pub returns-in_default : goal.returns-in_default
returns-in_default c =
    mark-none _ _ _ _
    (unwritten _ _ _ c.if-kind-eq-TO_SCALAR.false c.in_default.in_default-own.rest.0.1 c.in_default.in_default-own.rest.1
    (λ e. omega (arith, c.if-kind-gt-FOR.false, e)))
