-- The runner's answer as one number, for callers in C.
-- Trusted. Assumes nothing.
--     code_of, packed_ran    0, or number × 65,536 + place; with the steps in the upper 32 bits
--     PackedRun            under the settings, from the lent store m, the number r and the store m'
use Rattle.std.specs.Prelude.{◌≡◌, List, ℕ, ◌+◌, ◌*◌}
use Rattle.rules.specs.Context.{Limits}
use Rattle.execution.specs.Lent.{Lent}
use Rattle.execution.specs.Ran.{Answer, done, refused, Ran, run_of}

abbrev pub code_of : Answer → ℕ
code_of done = 0
code_of (refused k p) = k * 65536 + p

abbrev pub packed_ran : Ran → ℕ
packed_ran r = r.steps * 4294967296 + code_of r.answer

pub record PackedRun (limits : Limits) (bytes : List ℕ) (budget : ℕ) (m : Lent) (r : ℕ) (m' : Lent) : Type 0 where
  pub answer : r ≡ packed_ran (run_of limits bytes budget m)
  pub scalars-left : m'.scalars ≡ (run_of limits bytes budget m).store.scalars
  pub values-left : m'.values ≡ (run_of limits bytes budget m).store.values
