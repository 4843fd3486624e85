-- Settings within their ranges, and refusal 19 (document 02, request [6]).
-- Assumes nothing.
--     Ranges, ranges-of               each setting is in its range
--     out_of-ranges                   settings outside their ranges are refused
--     in_ranges                       others make no difference to refusals 1 to 7 and 16
--     SettingsRead, settings_read     what was read was read under settings in range
use mathlib.Core.Path.{◌≡◌, refl}
use mathlib.Core.Bool.{Bool, true, false}
use mathlib.Core.List.{List}
use Prim.Native.Nat.{ℕ, ◌≤◌}
use native.Mathlib.Omega.{arith}
use borrow.Author.Tests.{leb-true}
use lib.Dec.{leb}
use Rattle.laws.proofs.Bools.{and_left, and_right}
use Rattle.rules.specs.Context.{Limits, within_ranges}
use Rattle.layout.specs.Reading.{read, fault}
use Rattle.layout.specs.File.{File, bytes_read, file_of}

pub record Ranges (limits : Limits) : Type 0 where
  pub comparisons : limits.comparisons ≤ 16
  pub some-depth : 1 ≤ limits.depth
  pub depth : limits.depth ≤ 256
  pub members : limits.members ≤ 128

pub ranges-of : (limits : Limits) → within_ranges limits ≡ true → Ranges limits
unfolding within_ranges
ranges-of limits h =
    let k = and_right (leb limits.comparisons 16) _ h in
    let l = and_right (leb 1 limits.depth) _ k in
    record {
      comparisons = leb-true limits.comparisons 16 (and_left _ _ h);
      some-depth = leb-true 1 limits.depth (and_left _ _ k);
      depth = leb-true limits.depth 256 (and_left _ _ l);
      members = leb-true limits.members 128 (and_right (leb limits.depth 256) _ l);
    }

module _ (limits : Limits) (bytes : List ℕ) where
  pub out_of-ranges : within_ranges limits ≡ false → file_of limits bytes ≡ fault 19 0
  unfolding file_of
  out_of-ranges h = rw (h, file_of) refl

  pub in_ranges : within_ranges limits ≡ true → file_of limits bytes ≡ bytes_read limits bytes
  unfolding file_of
  in_ranges h = rw (h, file_of) refl

  pub record SettingsRead (f : File) (p : ℕ) : Type 0 where
    pub within : within_ranges limits ≡ true
    pub was_read : bytes_read limits bytes ≡ read f p

  pub settings_read : (f : File) (p : ℕ) → file_of limits bytes ≡ read f p → SettingsRead f p
  unfolding file_of
  settings_read f p = go (within_ranges limits) refl
    where
      go : (t : Bool) → within_ranges limits ≡ t → elim t [ true ↦ bytes_read limits bytes | false ↦ fault 19 0 ] ≡ read f p → SettingsRead f p
      go true w e = record { within = w; was_read = e }
      go false w e = absurd (let z : ◌≡◌ {A = ℕ} 0 1 = cc in omega (arith, z))
