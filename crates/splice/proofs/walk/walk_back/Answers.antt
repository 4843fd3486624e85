-- `splice::walk::walk_back` meets its contract: the file's words are put back, and walked.
-- Assumes nothing.
use native.Mathlib.Omega.{arith}
use mathlib.Core.Path.{refl}
use Rattle.splice.proofs.Walks.{can-put_back, can-walk, file-first}
use Rattle.splice.proofs.walk.walk_back.Goals as goal

pub put_back-requires : goal.put_back-requires
put_back-requires c = can-put_back c.requires

pub walk_file-requires : goal.walk_file-requires
walk_file-requires c = can-walk c.requires c.put_back.ensures (omega arith) refl

pub returns : goal.returns
returns c = file-first c.args.new.now.place c.args.new.now.bytes.now c.put_back.ensures c.walk_file.ensures
