-- `ends::past` meets its contract: what is left to follow from the place at hand gives what is asked from the first.
-- Assumes nothing.
use mathlib.Core.Path.{◌≡◌}
use Prim.Native.Nat.{◌-◌}
use Rattle.ends.specs.Sizes.{follow}
use Rattle.ends.proofs.past.Given as goal

abbrev pub invariant-loop : goal.invariant-loop
invariant-loop l = follow l.ends l.words (l.count - l.counter) l.at ≡ follow l.ends l.words l.count l.from
