-- The place past what starts at each word of a file, found from the last word to the first (document 01, "Layout").
-- Working: `node_sized` of proofs/Ends says that these places are the ends.
-- Assumes nothing.
--     past, sizes    the words of the next parts, by the sizes of what starts at each place; those sizes
--     follow         from a place on, past so many parts, by a list of ends
--     CanFill        a list of ends has room for the words of a file
--     Filled         what is left of a list of ends when they are written to it
use Rattle.std.specs.Prelude.{◌≡◌, true, false, List, [], ◌∷◌, ℕ, zero, suc, ◌+◌, ◌/◌, ◌%◌, ◌<◌, ◌≤◌, ltb, length, get_or, drop}
use Rattle.layout.specs.Bytes.{payloads}
use Rattle.layout.specs.Nodes.{count_of}

-- `past n m`: the words of the next n parts, where m has the sizes of what starts at each place
unfoldable pub past : ℕ → List ℕ → ℕ
past zero m = 0
past (suc n) [] = 0
past (suc n) (s ∷ m) = s + past n (drop s (s ∷ m))

unfoldable pub sizes : List ℕ → List ℕ
sizes [] = []
sizes (x ∷ l) = suc (past (count_of (x / payloads) (x % payloads)) (sizes l)) ∷ sizes l

-- of a file of n words
unfoldable pub follow : List ℕ → ℕ → ℕ → ℕ → ℕ
follow ends n zero at = at
follow ends n (suc k) at = elim (ltb at n) [ true ↦ follow ends n k (get_or ends at 0) | false ↦ at ]

pub record CanFill (file ends : List ℕ) : Type 0 where
  pub long : length file ≤ length ends
  pub small : length file < 4294967296

-- what stands past the file's words is as it was
pub record Filled (file before after : List ℕ) : Type 0 where
  pub kept : (at : ℕ) → length file ≤ at → get_or after at 0 ≡ get_or before at 0
  pub ended : (at : ℕ) → at < length file → get_or after at 0 ≡ at + get_or (sizes file) at 0
