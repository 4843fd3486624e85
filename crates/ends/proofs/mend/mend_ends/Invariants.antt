-- `ends::mend::mend_ends` meets its contract: the ends from a place on are written, and each turn writes the one before.
-- Assumes nothing.
use Rattle.ends.proofs.Mending.{Mending}
use Rattle.ends.proofs.mend.mend_ends.Given as goal

abbrev pub invariant-loop-i : goal.invariant-loop-i
invariant-loop-i l = Mending l.w l.initial.ends l.from l.to l.ends l.i
