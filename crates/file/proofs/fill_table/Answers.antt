-- `file::fill_table` meets its contract: ends, then masks of procedures, then masks of blocks.
-- Assumes nothing.
use Rattle.file.proofs.Files.{table-made}
use Rattle.file.proofs.fill_table.Goals as goal

pub returns : goal.returns
returns c = table-made c.fill_ends.ensures c.fill_masks.ensures c.fill_blocks.ensures
