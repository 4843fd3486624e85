-- `judge::row::past_carried` meets its contract. The invariant: what is left stands past items that are carried.
-- Assumes nothing.
use Rattle.judge.proofs.Carried.{Passing}
use Rattle.judge.proofs.row.past_carried.Given as goal

abbrev pub invariant-loop-i : goal.invariant-loop-i
invariant-loop-i l = Passing l.ends l.row l.at l.i l.next
