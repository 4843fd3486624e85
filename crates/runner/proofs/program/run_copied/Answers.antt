-- `runner::program::run_copied` meets its contract: the store is copied, the command is run, and the store is put back.
-- Assumes nothing.
use mathlib.Core.Path.{ap₂}
use Rattle.execution.specs.Lent.{lent}
use Rattle.runner.proofs.Programs.{left-within, reports-done, reports-refused}
use Rattle.runner.proofs.program.run_copied.Goals as goal

pub overflow_sub-steps : goal.overflow_sub-steps
overflow_sub-steps c =
    left-within c.requires (ap₂ lent c.copy_from_slice.ensures.after c.copy_from_slice-2.ensures.after) _ _ _
    c.run_command-ended.ensures

pub returns-in-Ok : goal.returns-in-Ok
returns-in-Ok c =
    reports-done c.requires (ap₂ lent c.copy_from_slice.ensures.after c.copy_from_slice-2.ensures.after) _ _ _
    c.run_command-ended.ensures (ap₂ lent c.copy_from_slice-3.ensures.after c.copy_from_slice-4.ensures.after)
    c.in-Ok.is

pub returns-in-Err : goal.returns-in-Err
returns-in-Err c =
    reports-refused c.requires (ap₂ lent c.copy_from_slice.ensures.after c.copy_from_slice-2.ensures.after) _ _ _
    c.run_command-ended.ensures (ap₂ lent c.copy_from_slice-3.ensures.after c.copy_from_slice-4.ensures.after)
    c.in-Err.is c.number.ensures
