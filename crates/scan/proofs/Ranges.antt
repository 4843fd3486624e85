-- A turn of a scan.
-- Assumes nothing.
--     any_none, any_next, any-hit, any-miss    the end of a scan for a word that passes a test; a turn
use mathlib.Core.Path.{◌≡◌, ◌∙◌}
use mathlib.Core.Bool.{Bool, true, false, ◌||◌}
use mathlib.Core.List.{List}
use Prim.Native.Nat.{ℕ, suc, ◌+◌, ◌-◌, ◌<◌, ◌≤◌}
use native.Mathlib.Omega.{arith}
use native.Mathlib.Numerals.{add-one}
use Rattle.layout.specs.Bytes.{kind_at, payload_at}
use Rattle.ends.specs.Blocks.{any_in}

one_less : (at to : ℕ) → at < to → to - at ≡ suc (to - (at + 1))
one_less at to h = omega arith

module _ (t : ℕ → ℕ → Bool) (file : List ℕ) (at to : ℕ) where
  pub any_none : to ≤ at → any_in t file (to - at) at ≡ false
  unfolding any_in
  any_none h = let e : to - at ≡ 0 = omega arith in rw e

  pub any_next : at < to →
      any_in t file (to - at) at ≡ (t (kind_at file at) (payload_at file at) || any_in t file (to - (at + 1)) (at + 1))
  unfolding any_in
  any_next h = rw (one_less at to h, add-one at)

  pub any-hit : at < to → t (kind_at file at) (payload_at file at) ≡ true → any_in t file (to - at) at ≡ true
  any-hit h e = any_next h ∙ rw e

  pub any-miss : at < to → t (kind_at file at) (payload_at file at) ≡ false →
      any_in t file (to - at) at ≡ any_in t file (to - (at + 1)) (at + 1)
  any-miss h e = any_next h ∙ rw e
