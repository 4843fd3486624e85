-- `changed_file::table::stays` meets its contract: what each procedure that was passed modifies stays.
-- Assumes nothing.
use Rattle.changed_file.proofs.Tables.{StaysBefore}
use Rattle.changed_file.proofs.table.stays.Given as goal

abbrev pub invariant-loop-i : goal.invariant-loop-i
invariant-loop-i l = StaysBefore l.w l.table l.from l.to l.same l.i
