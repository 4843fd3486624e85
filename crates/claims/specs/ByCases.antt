-- What request [4] of document 02 promises: how every constant is read, and that no answer changes, since this is the two's
-- complement of document 01.
-- Trusted. Assumes nothing.
--     ReadAs            the word 1:p is the constant z, wherever it is read
--     twos_complement    document 01's reading of a payload
--     ByCases           the claim
use Rattle.std.specs.Prelude.{◌≡◌, List, ℕ, suc, ◌+◌, ◌*◌, ◌/◌, ◌%◌, ◌<◌, ◌≤◌, ℤ, pos, ◌-ℤ◌}
use Rattle.language.specs.Syntax.{Arithmetic, constant}
use Rattle.layout.specs.Bytes.{word_count, number_at, word_of}
use Rattle.layout.specs.Reading.{read}
use Rattle.layout.specs.Read.{expression}

-- at any place of any file, with d + 1 levels left; reading goes on at the next word
abbrev pub ReadAs : ℕ → ℤ → Type 0
ReadAs p z =
    (file : List ℕ) (at d : ℕ) → at < word_count file → number_at file at ≡ word_of 1 p →
    expression file (suc d) Arithmetic at ≡ read (constant z) (at + 1)

-- of 26 bits the highest counts −33,554,432, the others count as in a number without a sign
abbrev pub twos_complement : ℕ → ℤ
twos_complement p = pos (p % 33554432) -ℤ pos (p / 33554432 * 33554432)

pub record ByCases : Type 0 where
  pub below : (p : ℕ) → p < 33554432 → ReadAs p (pos p)
  pub otherwise : (p : ℕ) → 33554432 ≤ p → p ≤ 67108863 → ReadAs p (pos p -ℤ pos 67108864)
  pub as_twos_complement : (p : ℕ) → p ≤ 67108863 → ReadAs p (twos_complement p)
