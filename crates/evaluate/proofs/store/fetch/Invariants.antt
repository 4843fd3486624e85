-- `evaluate::store::fetch` meets its contract: the first n values are those of the array. Assumes nothing.
use mathlib.Core.Path.{◌≡◌}
use Prim.Native.Nat.{◌*◌}
use lib.ListN.{take, drop}
use Rattle.evaluate.proofs.store.fetch.Given as goal

abbrev pub invariant-loop-n : goal.invariant-loop-n
invariant-loop-n l = take l.n l.scratch ≡ take l.n (drop (64 * l.array) l.values)
