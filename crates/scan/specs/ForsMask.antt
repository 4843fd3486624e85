-- The scalars that the `for`s of a file count with, as a mask, and where the `for`s stand.
-- Working: `still-steady` of proofs/StillSteady says that where no `for` was refused, none is after a command that modifies none
-- of them is put in the place of another. Assumes nothing.
--     ForsMask     the mask has q and m of each word of kind 31
--     ForsFound    such a mask; before one place there is no such word, and from another on there is none
use Rattle.std.specs.Prelude.{◌≡◌, true, List, ℕ, ◌/◌, ◌%◌, ◌<◌, ◌≤◌, length}
use Rattle.layout.specs.Bytes.{kind_at, payload_at}
use Rattle.ends.specs.Mask.{bit}
use Rattle.scan.specs.declared.for_mask.Fors.{Fors}

pub record ForsMask (file : List ℕ) (mask : ℕ) : Type 0 where
  pub first : (at : ℕ) → at < length file → kind_at file at ≡ 31 → bit mask (payload_at file at % 32) ≡ true
  pub second : (at : ℕ) → at < length file → kind_at file at ≡ 31 → bit mask (payload_at file at / 32 % 32) ≡ true

pub record ForsFound (file : List ℕ) (r : Fors) : Type 0 where
  pub mask-of : ForsMask file r.mask
  pub before : (i : ℕ) → i < r.first → kind_at file i ≡ 31 → ⊥
  pub behind : (i : ℕ) → r.past ≤ i → i < length file → kind_at file i ≡ 31 → ⊥
