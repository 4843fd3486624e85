-- `changed_file::table::read_scanned` meets its contract: refusal 7 by the scan.
-- Assumes nothing.
use Rattle.changed_file.proofs.Tables.{steadied-none, steadied-some}
use Rattle.changed_file.proofs.table.read_scanned.Goals as goal

pub returns-in-None : goal.returns-in-None
returns-in-None c = steadied-none c.requires.marked c.in-None.ensures

pub returns-in-Some : goal.returns-in-Some
returns-in-Some c = steadied-some c.requires.marked _ c.in-Some.ensures
