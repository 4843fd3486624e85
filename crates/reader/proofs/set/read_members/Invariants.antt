-- `reader::set::read_members` meets its contract: after i turns, `count` less i members are left to read, from p on.
-- Assumes nothing.
use mathlib.Core.Path.{◌≡◌}
use Prim.Native.Nat.{◌-◌}
use Rattle.layout.specs.Reading.{several}
use Rattle.layout.specs.Read.{member_at}
use Rattle.reader.specs.Walk.{walk_of}
use Rattle.reader.proofs.set.read_members.Given as goal

abbrev pub invariant-loop : goal.invariant-loop
invariant-loop l = (walk_of (several l.count (member_at l.w l.left) l.at) ≡ walk_of (several (l.count - l.counter) (member_at l.w l.left) l.p))
