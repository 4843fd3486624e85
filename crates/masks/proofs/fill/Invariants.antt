-- `masks::fill` meets its contract: the masks of the words from a place on are stored, and each turn stores the one before.
-- Assumes nothing.
use Rattle.masks.proofs.Filling.{Filling}
use Rattle.masks.proofs.fill.Given as goal

abbrev pub invariant-loop-i : goal.invariant-loop-i
invariant-loop-i l = Filling l.w l.ends l.initial.masks l.masks l.i
