-- `splice::walk::walk_old` meets its contract: the old command is read, or the file is walked.
-- Assumes nothing.
use Rattle.splice.proofs.Walks.{walk-count, old-here, old-not}
use Rattle.splice.proofs.walk.walk_old.Goals as goal

pub slice_bounds-is_read_to-end : goal.slice_bounds-is_read_to-end
slice_bounds-is_read_to-end c = walk-count c.requires.walk

pub returns-then-is_read_to : goal.returns-then-is_read_to
returns-then-is_read_to c = old-here c.requires c.is_read_to.ensures c.if-is_read_to.true

pub returns : goal.returns
returns c = old-not c.requires c.walk_file.ensures
