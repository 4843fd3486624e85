-- `implication::compile::compile` meets its contract: the pieces from k on are still to come. Assumes nothing.
use Prim.Native.Nat.{◌-◌}
use Rattle.implication.proofs.Walks.{Compilation}
use Rattle.implication.proofs.compile.compile.Given as goal

abbrev pub invariant-loop-k : goal.invariant-loop-k
invariant-loop-k l = Compilation l.w l.a l.end l.limit l.len l.initial.known l.initial.prog l.known l.prog l.at l.k

abbrev pub decreases-loop-k : goal.decreases-loop-k
decreases-loop-k l = l.end - l.k
