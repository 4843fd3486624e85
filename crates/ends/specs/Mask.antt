-- Identifiers as the bits of a number: bit x is scalar x, bit 32 + a is array a.
-- Working: `modified_tree` of scan/proofs/Trees says that the mask of a command's words has what it modifies; `bit-or`
-- and `bit-power` of proofs/Bits are the laws of its bits. Assumes nothing.
--     bit            a bit of a number
--     Low, slot      an identifier's number is at most 31; its bit
--     ModifiedBy     the bits are what a command modifies
use Rattle.std.specs.Prelude.{◌≡◌, Bool, ℕ, ◌+◌, ◌/◌, ◌%◌, ◌^◌, ◌≤◌, eqb}
use Rattle.language.specs.Syntax.{Command}
use Rattle.language.specs.Modifies.{Identifier, scalar_of, array_of, modifies}

unfoldable pub bit : ℕ → ℕ → Bool
bit m i = eqb (m / 2 ^ i % 2) 1

abbrev pub Low : Identifier → Type 0
Low (scalar_of x) = x ≤ 31
Low (array_of a) = a ≤ 31

abbrev pub slot : Identifier → ℕ
slot (scalar_of x) = x
slot (array_of a) = 32 + a

pub record ModifiedBy (c : Command) (mask : ℕ) : Type 0 where
  pub marks : (x : Identifier) → Low x → bit mask (slot x) ≡ modifies c x
