-- `implication::comparisons::Comparisons::find` meets its contract: it is none of those before. Assumes nothing.
use Rattle.implication.specs.Scanning.{Missed}
use Rattle.implication.proofs.comparisons.Comparisons.find.Given as goal

abbrev pub invariant-loop-number : goal.invariant-loop-number
invariant-loop-number l = Missed l.w l.k l.next l.self l.number
