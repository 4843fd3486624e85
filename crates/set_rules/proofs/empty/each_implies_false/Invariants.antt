-- `set_rules::empty::each_implies_false` meets its contract. The invariant: what the members that are left come to, all come to.
-- Assumes nothing.
use Rattle.sets.specs.Members.{places_left}
use Rattle.set_rules.proofs.EmptySets.{Remains}
use Rattle.set_rules.proofs.empty.each_implies_false.Given as goal

abbrev pub invariant-loop-i : goal.invariant-loop-i
invariant-loop-i l =
    goal.iterator-loop-i.can_next l.i-iterator
    × goal.iterator-loop-i.is_finite l.i-iterator
    × Remains l.file.words.now l.file.ends.now l.file.context.comparisons l.k l.from (places_left l.i-iterator)
