-- Words as numbers: a number is its kind and its payload.
-- Assumes nothing.
--     WordFound, found_at      the kind and the payload of the word at a place
--     quotient, remainder      of a number by its kind and payload
--     word-found, for-found    a word by its kind and payload
--     for-first, for-second    the scalars of a `for` by its payload
use mathlib.Core.Path.{◌≡◌, sym, ◌∙◌, ap}
use mathlib.Core.List.{List}
use Prim.Native.Nat.{ℕ, ◌+◌, ◌*◌, ◌/◌, ◌%◌, ◌<◌, ◌≤◌}
use native.Mathlib.Omega.{arith}
use lib.IntN.{ℤ}
use Rattle.rules.specs.Words.{word, for_word}
use Rattle.layout.specs.Bytes.{word_count, number_at, kind_at, payload_at, payloads}
use Rattle.layout.specs.Spelling.{payload_of, encode}

-- a word stands at the place, with this kind and this payload
pub record WordFound (file : List ℕ) (at k p : ℕ) : Type 0 where
  pub inside : at < word_count file
  pub number : number_at file at ≡ k * payloads + p
  pub small : p < payloads

halves : (n : ℕ) → n ≡ n / payloads * payloads + n % payloads
halves n = omega arith

below : (n : ℕ) → n % payloads < payloads
below n = omega arith

pub found_at : (file : List ℕ) (at : ℕ) → at < word_count file → WordFound file at (kind_at file at) (payload_at file at)
found_at file at h = record { inside = h; number = halves (number_at file at); small = below (number_at file at) }

pub quotient : (k p n : ℕ) → n ≡ k * payloads + p → p < payloads → n / payloads ≡ k
quotient k p n e h = omega arith

pub remainder : (k p n : ℕ) → n ≡ k * payloads + p → p < payloads → n % payloads ≡ p
remainder k p n e h = omega arith

-- a word is known by its kind and its payload
pub word-found : {file : List ℕ} {at k p : ℕ} (n : ℕ) (z : ℤ) → WordFound file at k p → k ≡ n → payload_of z ≡ p →
    number_at file at ≡ encode (word n z)
word-found {file} {at} {k} {p} n z f e x = f.number ∙ ap (λ i. i * payloads + p) e ∙ ap (λ i. n * payloads + i) (sym x)

pub for-found : {file : List ℕ} {at k p : ℕ} → WordFound file at k p → k ≡ 31 →
    number_at file at ≡ encode (for_word (p % 32) (p / 32))
for-found {file} {at} {k} {p} f e = f.number ∙ ap (λ i. i * payloads + p) e ∙ ap (λ i. 31 * payloads + i) (parts p)
  where
    parts : (n : ℕ) → n ≡ n % 32 + 32 * (n / 32)
    parts n = omega arith

-- the scalars of a `for` by its payload
pub for-first : (q m : ℕ) → q ≤ 31 → (q + 32 * m) % 32 ≡ q
for-first q m h = omega arith

pub for-second : (q m : ℕ) → q ≤ 31 → (q + 32 * m) / 32 ≡ m
for-second q m h = omega arith
