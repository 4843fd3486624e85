-- How many levels what stands at a place takes at least, and where it ends. Too few would cost a walk, and change no answer.
-- Working: `fits-wherever` of proofs/Again says what follows of a command in its place. Assumes nothing.
--     ExtentOf    whatever stands there, with at most so many levels, ends there and takes these levels or more
use Rattle.std.specs.Prelude.{◌≡◌, List, ℕ, ◌≤◌}
use Rattle.layout.specs.Nodes.{Node, node_part}
use Rattle.layout.specs.Standing.{PartStands}
use Rattle.splice.specs.declared.extent.Extent.{Extent}

pub record ExtentOf (file : List ℕ) (at most : ℕ) (r : Extent) : Type 0 where
  pub few : r.levels ≤ most
  pub end : (x : Node) (d p : ℕ) → d ≤ most → PartStands file (node_part x) d at p → r.end ≡ p
  pub least : (x : Node) (d p : ℕ) → d ≤ most → PartStands file (node_part x) d at p → r.levels ≤ d
