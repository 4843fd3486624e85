-- `file::read_calls` meets its contract: refusals 2 to 6, then 16. The reader has the table from the starts on.
-- Assumes nothing.
use Prim.Native.Nat.{◌-◌}
use native.Mathlib.Omega.{arith}
use borrow.Rule.Slice.PartMut.{same_len_mid}
use lib.ListN.{length}
use Rattle.ends.specs.Blocks.{table_at}
use Rattle.file.proofs.Files.{found-words, refused-found}
use Rattle.file.proofs.read_calls.Goals as goal

pub read_called-requires : goal.read_called-requires
read_called-requires c =
    let pre = c.requires in
    let table = c.args.table.now in
    let place = table_at c.args.w.now in
    let size = same_len_mid place (length table - place) table c.read_words.new.starts c.in_ok-places.ensures.size in (
      found-words table _ (omega (arith, pre.room)) c.in_ok-places.ensures,
      record { size = pre.size; room = omega (arith, pre.room, size) },
    )

pub returns-in_err-places : goal.returns-in_err-places
returns-in_err-places c = refused-found c.in_err-places.ensures.places c.from_residual.ensures.1
