-- A list of ends whose ends of some words are written anew, from the last of these words to the first.
-- Working: `node_sized` of proofs/Ends says that the places written are the ends, `sizes-swapped` of proofs/Swap that the others
-- stay when a part is put in the place of one as long. Assumes nothing.
--     CanMend    the ends of the words behind them are there
--     Mended     what is left of a list of ends when theirs are written to it
use Rattle.std.specs.Prelude.{◌≡◌, List, ℕ, ◌+◌, ◌<◌, ◌≤◌, length, get_or}
use Rattle.ends.specs.Sizes.{sizes}

-- the words from `from` up to `to`
pub record CanMend (file ends : List ℕ) (from to : ℕ) : Type 0 where
  pub ordered : from ≤ to
  pub inside : to ≤ length file
  pub long : length file ≤ length ends
  pub small : length file < 4294967296
  pub sized : (at : ℕ) → to ≤ at → at < length file → get_or ends at 0 ≡ at + get_or (sizes file) at 0

pub record Mended (file before after : List ℕ) (from to : ℕ) : Type 0 where
  pub same_length : length after ≡ length before
  pub sized : (at : ℕ) → from ≤ at → at < length file → get_or after at 0 ≡ at + get_or (sizes file) at 0
  pub kept-before : (at : ℕ) → at < from → get_or after at 0 ≡ get_or before at 0
  pub kept-behind : (at : ℕ) → to ≤ at → get_or after at 0 ≡ get_or before at 0
