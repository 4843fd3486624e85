-- `run::step::assign_scalar` meets its contract. Assumes nothing.
use borrow.Author.Rules.{rules}
use mathlib.Core.Path.{ap}
use native.Mathlib.Omega.{arith}
use lib.ListN.{set}
use mir.Syntax.{w64}
use mir.Val.{SFits}
use Rattle.execution.specs.Lent.{lent}
use Rattle.execution.specs.Run.{ended}
use Rattle.heads.proofs.Parts.{command-early}
use Rattle.arithmetic.proofs.Signed.{back}
use Rattle.run.proofs.Bodies.{scalar-can}
use Rattle.run.proofs.Commands.{becomes, passed, scalar-runs}
use Rattle.run.proofs.step.assign_scalar.Goals as goal

pub overflow_add-at : goal.overflow_add-at
overflow_add-at c =
    let h = command-early c.requires.command in omega arith

pub eval_operand-requires : goal.eval_operand-requires
eval_operand-requires c =
    (scalar-can c.requires).0

pub returns-in_err-v : goal.returns-in_err-v
returns-in_err-v c =
    passed _ c.in_err-v.field-0.0 c.from_residual.ensures.1
    (scalar-runs c.requires.head c.eval_operand.ensures c.in_err-v.ensures)

pub bounds-scalars-x : goal.bounds-scalars-x
bounds-scalars-x c =
    let h = (scalar-can c.requires).1 in omega arith

pub returns : goal.returns
returns c =
    let f : SFits w64 c.in_ok-v.v = search rules in
    becomes (ap (λ z. ended c.take_step.new.progress.left (lent (set c.args.scalars.now c.args.x z) c.args.values.now)) (back f))
    (scalar-runs c.requires.head c.eval_operand.ensures c.in_ok-v.ensures)
