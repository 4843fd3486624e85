-- `changed_file::table::stays` meets its contract: what each procedure that was passed modifies stays.
-- Assumes nothing.
use native.Mathlib.Omega.{arith}
use Rattle.scan.proofs.ProcedureMasks.{count_most}
use Rattle.changed_file.proofs.table.stays.Goals as goal

pub start_at-start-requires : goal.start_at-start-requires
start_at-start-requires c = omega (arith, c.procedure_count-i-end.ensures, c.requires.room, count_most c.args.w.now)
