-- The byte of a word in a formula, by its kind.
-- Assumes nothing.
--     by-low, by_high                           a word of no boolean
--     by-compare, by-false, by-true, by-other   a comparison; a truth; and, or, not
--     byte_word                                 of an encoded word
use mathlib.Core.Path.{◌≡◌, refl, ap₂}
use Prim.Native.Nat.{ℕ, ◌+◌, ◌<◌, ◌≤◌}
use native.Mathlib.Omega.{arith}
use borrow.Author.Tests.{lt-ltb, le-ltb, ne_eqb}
use lib.IntN.{ℤ}
use Rattle.rules.specs.Words.{word}
use Rattle.layout.specs.Bytes.{payloads}
use Rattle.layout.specs.Spelling.{payload_of, encode}
use Rattle.layout.proofs.Words.{quotient, remainder}
use Rattle.implication.specs.Scanning.{byte_by, byte_of}

pub by-low : (k p : ℕ) → k < 8 → byte_by k p ≡ 21
unfolding byte_by
by-low k p h = rw (lt-ltb k 8 h)

pub by_high : (k p : ℕ) → 12 < k → byte_by k p ≡ 21
unfolding byte_by
by_high k p h = rw (le-ltb k 8 (omega arith), lt-ltb 12 k h)

pub by-compare : (k p : ℕ) → k ≡ 8 → byte_by k p ≡ 22
unfolding byte_by
by-compare k p e = rw e

pub by-false : (k p : ℕ) → k ≡ 9 → p ≡ 0 → byte_by k p ≡ 16
unfolding byte_by
by-false k p e z = rw (e, z)

pub by-true : (k p : ℕ) → k ≡ 9 → (p ≡ 0 → ⊥) → byte_by k p ≡ 17
unfolding byte_by
by-true k p e z = rw (e, ne_eqb p 0 z)

pub by-other : (k p : ℕ) → 10 ≤ k → k ≤ 12 → byte_by k p ≡ k + 8
unfolding byte_by
by-other k p h l =
    rw (le-ltb k 8 (omega arith), le-ltb 12 k l, ne_eqb k 8 (λ e. omega arith), ne_eqb k 9 (λ e. omega arith))

pub byte_word : (k : ℕ) (z : ℤ) → payload_of z < payloads → byte_of (encode (word k z)) ≡ byte_by k (payload_of z)
byte_word k z s =
    ap₂ (λ (i j : ℕ). byte_by i j)
    (quotient k (payload_of z) (encode (word k z)) refl s)
    (remainder k (payload_of z) (encode (word k z)) refl s)
