-- Numbers in the place of as many (document 02, request [5]): "of equal length in the place of one such command".
-- Trusted. Assumes nothing.
--     spliced    a list with others in the place of as many of its numbers
use Rattle.std.specs.Prelude.{List, ◌++◌, ℕ, ◌+◌, length, take, drop}

-- the numbers of m in the place of as many of l, from `at` on
abbrev pub spliced : List ℕ → ℕ → List ℕ → List ℕ
spliced l at m = take at l ++ (m ++ drop (at + length m) l)
