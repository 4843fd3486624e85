-- `splice::copy::copy` meets its contract: so many bytes are copied, and each turn copies the next.
-- Assumes nothing.
use Rattle.splice.proofs.Splice.{Copying}
use Rattle.splice.proofs.copy.copy.Given as goal

abbrev pub invariant-loop-i : goal.invariant-loop-i
invariant-loop-i l = Copying l.from l.initial.to l.at l.to l.i
