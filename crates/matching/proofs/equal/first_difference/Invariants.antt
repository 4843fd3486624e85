-- `matching::equal::first_difference` meets its contract: up to the place at hand both are the same.
-- Assumes nothing.
use mathlib.Core.Path.{◌≡◌}
use Prim.Native.Nat.{◌+◌}
use lib.Dec.{eqb}
use lib.ListN.{drop}
use Rattle.std.specs.List.{common_prefix_len}
use Rattle.matching.proofs.equal.first_difference.Given as goal

abbrev pub invariant-loop-i : goal.invariant-loop-i
invariant-loop-i l =
    l.i + common_prefix_len eqb (drop l.i l.a) (drop l.i l.b) ≡ l.fn.k + common_prefix_len eqb (drop l.fn.k l.a) (drop l.fn.k l.b)
