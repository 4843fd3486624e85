-- `implication::scan::skip` meets its contract: the words before k are no boolean's. Assumes nothing.
use Rattle.implication.proofs.Spans.{Bare}
use Rattle.implication.proofs.scan.skip.Given as goal

abbrev pub invariant-loop-k : goal.invariant-loop-k
invariant-loop-k l = Bare l.w l.a l.k
