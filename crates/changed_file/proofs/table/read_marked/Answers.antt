-- `changed_file::table::read_marked` meets its contract: there is no `for`, or refusal 7 by the scan, without masks of blocks or with them.
-- Assumes nothing.
use Rattle.changed_file.proofs.Tables.{steadied-without, marked-blocked, can-scan, can-scan_blocks, steadied-blocked}
use Rattle.changed_file.proofs.table.read_marked.Goals as goal

pub returns-then-fors-eq0 : goal.returns-then-fors-eq0
returns-then-fors-eq0 c = let pre = c.requires in steadied-without pre.0 pre.1 c.if-fors-eq0.true

pub read_scanned-requires : goal.read_scanned-requires
read_scanned-requires c = let pre = c.requires in record { marked = pre.0; can_scan = can-scan pre.0 pre.1 }

pub read_scanned-requires-2 : goal.read_scanned-requires-2
read_scanned-requires-2 c =
    let pre = c.requires in
    let made = c.fill_blocks.ensures in
    record { marked = marked-blocked pre.0 made; can_scan = can-scan_blocks pre.0 pre.1 made }

pub returns : goal.returns
returns c = steadied-blocked c.fill_blocks.ensures c.read_scanned-2.ensures
