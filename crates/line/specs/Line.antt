-- The line of a verdict (document 01, "Judging order"): `accepted `, the count; or `refused `, number, space, place.
-- Trusted. Assumes nothing.
--     decimal         a number in decimal digits, for numbers of up to 20 digits
--     line_of          the bytes of the line, with its end
--     Written         the line of a verdict stands in front of an array, in so many bytes
--     LineFor         a line is that of the verdict for a file
use Rattle.std.specs.Prelude.{◌≡◌, true, false, List, [], ◌∷◌, ◌++◌, ℕ, zero, suc, ◌+◌, ◌/◌, ◌%◌, ◌≤◌, ltb, length, take}
use Rattle.rules.specs.Context.{standard}
use Rattle.rules.specs.Judge.{Verdict, accepted, refused}
use Rattle.layout.specs.Verdict.{verdict_of}

-- at most so many digits, the last one last; 48 is `0`. The first case is for a number with more digits, and no number of a verdict has
-- more than 20: the code's are below 2^64, and `fewest_short` (proofs/Lines) says that 20 are then enough.
unfoldable pub decimal_by : ℕ → ℕ → List ℕ
decimal_by zero n = []
decimal_by (suc k) n =
    elim (ltb n 10) [ true ↦ (48 + n) ∷ [] | false ↦ decimal_by k (n / 10) ++ ((48 + n % 10) ∷ []) ]

unfoldable pub decimal : ℕ → List ℕ
decimal n = decimal_by 20 n

-- `accepted ` and `refused `
abbrev pub accepted_text : List ℕ
accepted_text = 97 ∷ 99 ∷ 99 ∷ 101 ∷ 112 ∷ 116 ∷ 101 ∷ 100 ∷ 32 ∷ []

abbrev pub refused_text : List ℕ
refused_text = 114 ∷ 101 ∷ 102 ∷ 117 ∷ 115 ∷ 101 ∷ 100 ∷ 32 ∷ []

-- 32 is a space, and 10 ends a line
unfoldable pub line_of : Verdict → List ℕ
line_of (accepted n) = accepted_text ++ (decimal n ++ (10 ∷ []))
line_of (refused k i) = refused_text ++ (decimal k ++ (32 ∷ [])) ++ (decimal i ++ (10 ∷ []))

pub record Written (v : Verdict) (after : List ℕ) (r : ℕ) : Type 0 where
  pub inside : r ≤ length after
  pub count : r ≡ length (take r after)
  pub content : take r after ≡ line_of v

-- what the program asks wherever it writes
abbrev pub LineFor : List ℕ → List ℕ → Type 0
LineFor file line = line ≡ line_of (verdict_of standard file)
