-- `masks::parts_mask` meets its contract: the masks of the parts before a place are joined, and each turn joins the one there.
-- Assumes nothing.
use Prim.Native.Nat.{◌-◌}
use Rattle.masks.proofs.Joined.{Joining}
use Rattle.masks.proofs.parts_mask.Given as goal

abbrev pub invariant-loop : goal.invariant-loop
invariant-loop l = Joining l.w l.ends l.at (l.end - l.counter) l.next l.mask
