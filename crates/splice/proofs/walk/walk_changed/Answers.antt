-- `splice::walk::walk_changed` meets its contract: the new command takes no more levels or is none, or the changed words are walked.
-- Assumes nothing.
use Rattle.splice.proofs.Walks.{new-count, new-read}
use Rattle.splice.proofs.walk.walk_changed.Goals as goal

pub slice_bounds-extent_at-end-2 : goal.slice_bounds-extent_at-end-2
slice_bounds-extent_at-end-2 c = new-count c.requires

pub slice_bounds-is_read_to-end-2 : goal.slice_bounds-is_read_to-end-2
slice_bounds-is_read_to-end-2 c = new-count c.requires

pub walk_new-requires : goal.walk_new-requires
walk_new-requires c = new-read c.requires c.is_read_to.ensures c.if-not-is_read_to.false c.extent_at-extent.ensures
