-- `runner::program::run_program` meets its contract: refusals 10 and 11, then the run.
-- Assumes nothing.
use native.Mathlib.Omega.{arith}
use Rattle.execution.specs.Lent.{lent}
use Rattle.runner.proofs.Programs.{over-budget, ill_scalars, ill_values}
use Rattle.runner.proofs.program.run_program.Goals as goal

pub returns-then-budget-gt1000000 : goal.returns-then-budget-gt1000000
returns-then-budget-gt1000000 c =
    over-budget c.args.budget (lent c.args.scalars.now
    c.args.values.now) c.if-budget-gt1000000.true c.refused.ensures

pub returns-then-scalars-ne32 : goal.returns-then-scalars-ne32
returns-then-scalars-ne32 c =
    ill_scalars c.args.budget (lent c.args.scalars.now c.args.values.now) (omega arith)
    c.if-scalars-ne32.true c.refused-then-scalars-ne32.ensures

pub returns-then-values-ne2048 : goal.returns-then-values-ne2048
returns-then-values-ne2048 c =
    ill_values c.args.budget (lent c.args.scalars.now c.args.values.now)
    (omega arith) c.if-scalars-ne32.false c.if-values-ne2048.true c.refused-then-values-ne2048.ensures
