-- `run::step::assign_array` meets its contract. Assumes nothing.
use mathlib.Core.Path.{ap}
use native.Mathlib.Omega.{arith}
use Rattle.std.proofs.lemmas.Slice.{put_mid-paste}
use Rattle.execution.specs.Lent.{lent}
use Rattle.execution.specs.Run.{ended}
use Rattle.heads.proofs.Parts.{command-early}
use Rattle.run.proofs.Bodies.{array-can}
use Rattle.run.proofs.Commands.{becomes, passed, array_runs}
use Rattle.run.proofs.step.assign_array.Goals as goal

pub overflow_add-at : goal.overflow_add-at
overflow_add-at c =
    let h = command-early c.requires.command in omega arith

pub eval_array-requires : goal.eval_array-requires
eval_array-requires c =
    (array-can c.requires).0

pub returns-in_err-take_step : goal.returns-in_err-take_step
returns-in_err-take_step c =
    passed _ c.in_err-take_step.field-0.0 c.from_residual.ensures.1
    (array_runs _ _ c.requires.head c.eval_array.ensures c.in_err-take_step.ensures)

pub slice_bounds-copy_from_slice-end : goal.slice_bounds-copy_from_slice-end
slice_bounds-copy_from_slice-end c =
    let h = (array-can c.requires).1 in omega arith

pub returns : goal.returns
returns c =
    becomes
    (ap (λ z. ended c.take_step.new.progress.left (lent c.args.scalars.now z))
    (put_mid-paste _ _ _ _ _ 64 c.copy_from_slice.ensures.after (omega arith) (omega arith)))
    (array_runs _ _ c.requires.head c.eval_array.ensures c.in_ok-take_step.ensures)
