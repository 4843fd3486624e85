-- `splice::walk::walk_first` meets its contract: the new bytes do not fit, or the new command's words are loaded.
-- Assumes nothing.
use native.Mathlib.Omega.{arith}
use Rattle.splice.proofs.Walks.{walk-count, file-first, new-loaded}
use Rattle.splice.proofs.walk.walk_first.Goals as goal

pub returns-then-n-new : goal.returns-then-n-new
returns-then-n-new c = file-first c.args.new.now.place c.args.new.now.bytes.now c.requires.rooms.loaded c.walk_file.ensures

pub returns-then-n-new-2 : goal.returns-then-n-new-2
returns-then-n-new-2 c = file-first c.args.new.now.place c.args.new.now.bytes.now c.requires.rooms.loaded c.walk_file-then-n-new-2.ensures

pub slice_bounds-extent_at-end-2 : goal.slice_bounds-extent_at-end-2
slice_bounds-extent_at-end-2 c = walk-count c.requires

pub walk_changed-requires : goal.walk_changed-requires
walk_changed-requires c = new-loaded c.requires (omega (arith, c.if-n-new-2.false, c.if-n-new.false)) c.load.ensures
