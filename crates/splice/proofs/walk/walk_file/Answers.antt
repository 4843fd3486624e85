-- `splice::walk::walk_file` meets its contract: the words in front are the file's.
-- Assumes nothing.
use mathlib.Core.Path.{refl}
use Rattle.reader.proofs.Walks.{exit}
use Rattle.splice.proofs.Walks.{walk-count, walk-room, file-walked, file-refused}
use Rattle.splice.proofs.walk.walk_file.Goals as goal

pub slice_bounds-read_calls-end : goal.slice_bounds-read_calls-end
slice_bounds-read_calls-end c = walk-count c.requires

pub read_calls-requires : goal.read_calls-requires
read_calls-requires c = walk-room c.requires

pub returns : goal.returns
returns c = file-walked c.requires c.in_ok-places.ensures

pub returns-in_err-places : goal.returns-in_err-places
returns-in_err-places c = file-refused c.requires (exit c.from_residual.ensures.1 refl) c.in_err-places.ensures
