-- Bytes put into an array at a place.
-- Working: `accepted-line` and `refused-line` of proofs/Lines make the line of them. Assumes nothing.
--     Room       so many bytes fit at a place
--     TextPut    bytes stand at a place, behind what stood there
use Rattle.std.specs.Prelude.{◌≡◌, List, ◌++◌, ℕ, ◌+◌, ◌≤◌, length, take}

pub record Room (out : List ℕ) (at count : ℕ) : Type 0 where
  pub room : at + count ≤ length out

pub record TextPut (before : List ℕ) (at : ℕ) (text after : List ℕ) (r : ℕ) : Type 0 where
  pub end : r ≡ at + length text
  pub content : take r after ≡ take at before ++ text
  pub size : length after ≡ length before
