-- `truth_table::block` meets its contract: the stack holds what the bytes from i on give in each lane. Assumes nothing.
use lib.ListN.{length}
use Rattle.truth_table.proofs.Lanes.{Lanes}
use Rattle.truth_table.proofs.block.Given as goal

abbrev pub invariant-loop-i : goal.invariant-loop-i
invariant-loop-i l = Lanes (length l.initial.stack) l.prog l.len l.leaves l.stack l.top l.word l.i
