-- `changed_file::table::fill_marked` meets its contract: ends, then masks of procedures.
-- Assumes nothing.
use Rattle.changed_file.proofs.Tables.{filled_marked}
use Rattle.changed_file.proofs.table.fill_marked.Goals as goal

pub returns : goal.returns
returns c =
    let pre = c.requires in
    filled_marked pre.0 pre.1 c.fill_ends.ensures c.table-1.given c.fill_masks.ensures
