-- The integer of a constant's payload: each of its two cases, and that the payload and the integer give each other back.
-- Assumes nothing.
--     constant-itself        below 33,554,432 the payload itself
--     constant-less          from there on the payload less 67,108,864
--     payload_of-constant    the payload of a payload's integer is that payload
--     constant-fits          the integer is in the document's range
--     payload-small          the payload of an integer in range has 26 bits
--     constant_of-payload    an integer in range is that of its payload
use mathlib.Core.Path.{◌≡◌, refl, ◌∙◌, ap}
use mathlib.Core.Bool.{Bool, true, false, cond}
use Prim.Native.Nat.{ℕ, suc, ◌-◌, ◌<◌, ◌≤◌}
use native.Mathlib.Omega.{arith}
use borrow.Author.Tests.{ltb-true, ltb-false, lt-ltb, le-ltb}
use lib.Dec.{ltb}
use lib.IntN.{ℤ, pos, negsuc, ◌-ℤ◌}
use Rattle.layout.specs.Bytes.{payloads}
use Rattle.layout.specs.Constant.{constant_of}
use Rattle.layout.specs.Spelling.{payload_of, FitsConstant}

-- of any bound, so that a wrong one is refused where it is wrong
below : {A : Type 0} (p n : ℕ) (a b : A) → p < n → cond (ltb p n) a b ≡ a
below p n a b h = simp (lt-ltb p n h)

from : {A : Type 0} (p n : ℕ) (a b : A) → n ≤ p → cond (ltb p n) a b ≡ b
from p n a b h = simp (le-ltb p n h)

pub constant-itself : (p : ℕ) → p < 33554432 → constant_of p ≡ pos p
constant-itself p h = below p _ _ _ (omega arith)

pub constant-less : (p : ℕ) → 33554432 ≤ p → constant_of p ≡ pos p -ℤ pos 67108864
constant-less p h = from p _ _ _ (omega arith)

negative : (p : ℕ) → 33554432 ≤ p → p < payloads → constant_of p ≡ negsuc (payloads - suc p)
negative p h k = constant-less p h ∙ simp (lt-ltb p payloads k)

pub payload_of-constant : (p : ℕ) → p < payloads → payload_of (constant_of p) ≡ p
payload_of-constant p h = go (ltb p 33554432) refl
  where
    go : (b : Bool) → ltb p 33554432 ≡ b → payload_of (constant_of p) ≡ p
    go true e = ap payload_of (constant-itself p (ltb-true p 33554432 e))
    go false e = ap payload_of (negative p (ltb-false p 33554432 e) h) ∙ omega arith

pub constant-fits : (p : ℕ) → p < payloads → FitsConstant (constant_of p)
constant-fits p h = go (ltb p 33554432) refl
  where
    go : (b : Bool) → ltb p 33554432 ≡ b → FitsConstant (constant_of p)
    go true e = let l = ltb-true p 33554432 e in rw (constant-itself p l) (omega arith)
    go false e = let l = ltb-false p 33554432 e in rw (negative p l h) (omega arith)

pub payload-small : (z : ℤ) → FitsConstant z → payload_of z < payloads
payload-small (pos n) h = omega arith
payload-small (negsuc n) h = omega arith

pub constant_of-payload : (z : ℤ) → FitsConstant z → constant_of (payload_of z) ≡ z
constant_of-payload (pos n) h = constant-itself n (omega arith)
constant_of-payload (negsuc n) h = negative (payloads - suc n) (omega arith) (omega arith) ∙ ap negsuc (omega arith)
