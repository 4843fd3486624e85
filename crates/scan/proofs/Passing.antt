-- A scan that passes words until it comes to some of a kind.
-- Assumes nothing.
--     first-passed    a scan for the first place that passes a test goes past them, where only words of the kind pass it
use mathlib.Core.Path.{◌≡◌}
use mathlib.Core.Bool.{Bool, false}
use mathlib.Core.List.{List}
use Prim.Native.Nat.{ℕ, ◌-◌, ◌≤◌}
use lib.ListN.{length}
use Rattle.layout.specs.Bytes.{word_count, kind_at}
use Rattle.layout.specs.Reading.{first_place}
use Rattle.scan.specs.Pass.{Passed}
use Rattle.scan.proofs.First.{first_past}

-- no word of another kind passes the test
module _ (file : List ℕ) {kind : ℕ} (t : ℕ → Bool) (other : (i : ℕ) → (kind_at file i ≡ kind → ⊥) → t i ≡ false) where
  pub first-passed : {at p : ℕ} → at ≤ length file → Passed file kind at p →
      first_place t (word_count file - at) at ≡ first_place t (word_count file - p) p
  first-passed {at} {p} h x =
      first_past t (word_count file) at p x.onward (x.inside h) λ i l m. other i (x.none i l m)
