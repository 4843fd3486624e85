-- `splice::extent::extent_at` meets its contract: in the loop, so many parts are ahead. The levels left fall.
-- Assumes nothing.
use Rattle.std.proofs.Common.{◌-◌}
use Rattle.splice.proofs.Extents.{Ahead}
use Rattle.splice.proofs.extent.+extent_at.Given as goal

abbrev pub decreases-extent_at : goal.decreases-extent_at
decreases-extent_at l = l.most

abbrev pub invariant-loop : goal.invariant-loop
invariant-loop l = Ahead l.w l.at l.most (l.end - l.counter) l.end-2 l.levels
