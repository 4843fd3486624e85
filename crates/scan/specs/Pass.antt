-- A scan that passes words until it comes to some of a kind.
-- Working: `first-passed` of proofs/Passing says that a scan for the first place that passes a test may go on so, where only words of the
-- kind pass it. Assumes nothing.
--     Passed    a scan went on to a place, and no word before it has the kind
use Rattle.std.specs.Prelude.{◌≡◌, List, ℕ, ◌<◌, ◌≤◌, length}
use Rattle.layout.specs.Bytes.{kind_at}

pub record Passed (file : List ℕ) (kind from to : ℕ) : Type 0 where
  pub onward : from ≤ to
  pub inside : from ≤ length file → to ≤ length file
  pub none : (i : ℕ) → from ≤ i → i < to → kind_at file i ≡ kind → ⊥
