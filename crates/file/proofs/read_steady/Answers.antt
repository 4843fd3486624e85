-- `file::read_steady` meets its contract: refusal 7 by the scan.
-- Assumes nothing.
use Rattle.file.proofs.Files.{steady-tabled, unsteady-tabled}
use Rattle.file.proofs.read_steady.Goals as goal

pub returns-in-None : goal.returns-in-None
returns-in-None c =
    let pre = c.requires in
    steady-tabled pre.0.found pre.0.right c.fill_table.ensures c.in-None.ensures

pub returns-in-Some : goal.returns-in-Some
returns-in-Some c =
    let pre = c.requires in
    unsteady-tabled pre.0.found pre.0.right c.fill_table.ensures _ c.in-Some.ensures
