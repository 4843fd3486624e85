-- `truth_table::spread` meets its contract: by the test of the remainder. Assumes nothing.
use mathlib.Core.Path.{◌≡◌, refl, sym, ap}
use Prim.Native.Nat.{ℕ, zero, suc, ◌-◌, ◌^◌, ◌<◌}
use native.Mathlib.Omega.{arith}
use Rattle.truth_table.specs.Formula.{spread_of}
use Rattle.truth_table.proofs.spread.Goals as goal

one : (v : ℕ) → v < 2 → (v ≡ 0 → ⊥) → 2 ^ 64 - 1 ≡ spread_of v
one zero l n = absurd (n refl)
one (suc v) l n = refl

pub returns-then-x-eq0 : goal.returns-then-x-eq0
returns-then-x-eq0 c = sym (ap spread_of c.if-x-eq0.true)

pub returns-else-x-eq0 : goal.returns-else-x-eq0
returns-else-x-eq0 c = one _ (omega arith) c.if-x-eq0.false
