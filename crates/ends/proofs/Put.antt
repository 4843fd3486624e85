-- A mask that is put in a list, in two halves.
-- Assumes nothing.
--     put                                 the list that has it
--     put-length, put_other, put-block    its length; another place; the mask
--     put-before, put-behind              a mask that stands before it, or behind it
use mathlib.Core.Path.{◌≡◌, ap₂, ◌∙◌}
use mathlib.Core.List.{List}
use Prim.Native.Nat.{ℕ, ◌+◌, ◌*◌, ◌/◌, ◌%◌, ◌<◌}
use native.Mathlib.Omega.{arith}
use lib.ListN.{length, get_or, set, length-set}
use lib.Seq.{get_or-set_same, get_or-set_other}
use Rattle.ends.specs.Blocks.{block_at}

abbrev pub put : List ℕ → ℕ → ℕ → List ℕ
put l at v = set (set l at (v % 4294967296)) (at + 1) (v / 4294967296)

halves : (v : ℕ) → v % 4294967296 + 4294967296 * (v / 4294967296) ≡ v
halves v = omega arith

module _ (l : List ℕ) (at v : ℕ) where
  pub put-length : length (put l at v) ≡ length l
  put-length = length-set (set l at (v % 4294967296)) (at + 1) (v / 4294967296) ∙ length-set l at (v % 4294967296)

  pub put_other : (j : ℕ) → (j ≡ at → ⊥) → (j ≡ at + 1 → ⊥) → get_or (put l at v) j 0 ≡ get_or l j 0
  put_other j a b =
      get_or-set_other (set l at (v % 4294967296)) (at + 1) j (v / 4294967296) 0 b
      ∙ get_or-set_other l at j (v % 4294967296) 0 a

  pub put-block : at + 1 < length l → block_at (put l at v) at ≡ v
  put-block h =
      ap₂ (λ x y. x + 4294967296 * y)
      (get_or-set_other (set l at (v % 4294967296)) (at + 1) at (v / 4294967296) 0 (λ e. omega arith)
      ∙ get_or-set_same l at (v % 4294967296) 0 (omega arith))
      (get_or-set_same (set l at (v % 4294967296)) (at + 1) (v / 4294967296) 0
      (omega (arith, length-set l at (v % 4294967296))))
      ∙ halves v

  pub put-before : (j : ℕ) → j + 1 < at → block_at (put l at v) j ≡ block_at l j
  put-before j h =
      ap₂ (λ x y. x + 4294967296 * y) (put_other j (λ e. omega arith) (λ e. omega arith))
      (put_other (j + 1) (λ e. omega arith) (λ e. omega arith))

  pub put-behind : (j : ℕ) → at + 1 < j → block_at (put l at v) j ≡ block_at l j
  put-behind j h =
      ap₂ (λ x y. x + 4294967296 * y) (put_other j (λ e. omega arith) (λ e. omega arith))
      (put_other (j + 1) (λ e. omega arith) (λ e. omega arith))
