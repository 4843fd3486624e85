-- `flow::pack` meets its contract: the numbers of the answer are small enough for 32 bits.
-- Assumes nothing.
use mathlib.Core.Path.{sym, ap, subst}
use native.Mathlib.Omega.{arith}
use Rattle.flow.specs.Answer.{packed_answer, SmallAnswer}
use Rattle.flow.proofs.pack.Goals as goal

pub overflow_cast-result : goal.overflow_cast-result
overflow_cast-result c = let h = subst SmallAnswer c.in-Ok.is c.requires in omega (arith, h)

pub overflow_mul-result : goal.overflow_mul-result
overflow_mul-result c =
    let h = subst SmallAnswer c.in-Err.is c.requires in
    omega (arith, h.0)

pub overflow_cast-result-in-Err : goal.overflow_cast-result-in-Err
overflow_cast-result-in-Err c =
    let h = subst SmallAnswer c.in-Err.is c.requires in
    omega (arith, h.1)

pub overflow_add-result : goal.overflow_add-result
overflow_add-result c =
    let h = subst SmallAnswer c.in-Err.is c.requires in
    omega (arith, h.0, h.1)

pub returns-in-Ok : goal.returns-in-Ok
returns-in-Ok c = sym (ap packed_answer c.in-Ok.is)

pub returns-in-Err : goal.returns-in-Err
returns-in-Err c = sym (ap packed_answer c.in-Err.is)
