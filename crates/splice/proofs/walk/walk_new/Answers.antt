-- `splice::walk::walk_new` meets its contract: the changed words are walked, the file's are put back, and these pass too or are walked.
-- Assumes nothing.
use native.Mathlib.Omega.{arith}
use Rattle.splice.proofs.Walks.{new-count, new-room, can-put_back, can-walk, file-first, old-if_read, old-walked}
use Rattle.splice.proofs.walk.walk_new.Goals as goal

pub slice_bounds-read_calls-end-2 : goal.slice_bounds-read_calls-end-2
slice_bounds-read_calls-end-2 c = new-count c.requires.loaded

pub read_calls-changed-requires : goal.read_calls-changed-requires
read_calls-changed-requires c = new-room c.requires.loaded

pub put_back-requires : goal.put_back-requires
put_back-requires c = can-put_back c.requires.loaded

pub walk_old-requires : goal.walk_old-requires
walk_old-requires c =
    old-if_read c.requires c.read_calls-changed.ensures c.in-Ok.is c.put_back.ensures (omega arith)
    (omega arith)

pub walk_file-requires : goal.walk_file-requires
walk_file-requires c = can-walk c.requires.loaded c.put_back.ensures (omega arith) (omega arith)

pub returns-in-Ok : goal.returns-in-Ok
returns-in-Ok c = old-walked c.requires c.read_calls-changed.ensures c.in-Ok.is c.put_back.ensures c.walk_old.ensures

pub returns-in-Err : goal.returns-in-Err
returns-in-Err c = file-first c.args.new.now.place c.args.new.now.bytes.now c.put_back.ensures c.walk_file.ensures
