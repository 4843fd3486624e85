-- `compare::plain::same_plain` meets its contract: the first words of two plain forms, then their operands. The measure is the words
-- left from the first boolean on.
-- Assumes nothing.
use Prim.Native.Nat.{◌-◌}
use lib.ListN.{length}
use Rattle.compare.proofs.plain.+same_plain.Given as goal

abbrev pub decreases-same_plain : goal.decreases-same_plain
decreases-same_plain l = length l.w.now - l.f
