-- The words of a boolean by what matters of each, and ranges of words.
-- Working: `scan-boolean` of proofs/Pieces ties the bytes to the words of a boolean, `same-comparison` and
-- `comparison_same` of proofs/Encodings tie ranges to the comparisons that stand there. Assumes nothing.
--     byte_by, byte_of, byte_at          the byte of a word in a formula
--     IsRole                          what a word is in a boolean
--     Skipped                         the first place with a word of a boolean
--     SameFor, SameRange, Compares    two ranges have the same words
--     span_at, Ranges                 the ranges of comparisons, by number
--     CanFind, Missed, FoundAt, Finds a range of words is found among others
--     Added                           one more range
use Rattle.std.specs.Prelude.{◌≡◌, ◌≢◌, Bool, true, false, cond, List, [], ◌∷◌, ◌++◌, ℕ, ◌+◌, ◌-◌, ◌/◌, ◌%◌, ◌<◌, ◌≤◌, eqb, ltb, length, get_or}
use Rattle.std.specs.Prelude.{Option, Some, None, Result, MatchResult}
use Rattle.implication.specs.declared.Failure.{Failure}
use Rattle.implication.specs.declared.Failure.TheVariants.{TooLarge}
use Rattle.implication.specs.declared.scan.Role.{Role}
use Rattle.implication.specs.declared.scan.Role.TheVariants.{Byte, Comparison, Inside}
use Rattle.layout.specs.Bytes.{payloads}

-- by kind and payload: 16 and 17 a truth, 18 and, 19 or, 20 not, 21 a word of no boolean, 22 a comparison
unfoldable pub byte_by : ℕ → ℕ → ℕ
byte_by k p =
    cond (ltb k 8) 21
    (cond (ltb 12 k) 21 (cond (eqb k 8) 22 (cond (eqb k 9) (cond (eqb p 0) 16 17) (k + 8))))

abbrev pub byte_of : ℕ → ℕ
byte_of x = byte_by (x / payloads) (x % payloads)

abbrev pub byte_at : List ℕ → ℕ → ℕ
byte_at w k = byte_of (get_or w k 0)

-- what the word x is in a boolean
abbrev pub IsRole : ℕ → Role → Type 0
IsRole x (Byte b) = (b ≡ byte_of x) × (b < 21)
IsRole x Comparison = byte_of x ≡ 22
IsRole x Inside = byte_of x ≡ 21

-- r is the first place from a on, and before end, with a word of a boolean; end where there is none
pub record Skipped (w : List ℕ) (a end r : ℕ) : Type 0 where
  pub from : a ≤ r
  pub upto : r ≤ end
  pub over : (x : ℕ) → a ≤ x → x < r → byte_at w x ≡ 21
  pub stops : r < end → byte_at w r ≡ 21 → ⊥

-- the n words from a on are those from p on
pub record SameFor (w : List ℕ) (a p n : ℕ) : Type 0 where
  pub same : (x : ℕ) → x < n → get_or w (a + x) 0 ≡ get_or w (p + x) 0

-- the words from a up to b are those from p up to q
pub record SameRange (w : List ℕ) (a b p q : ℕ) : Type 0 where
  pub long : b - a ≡ q - p
  pub same : SameFor w a p (b - a)

pub record Compares (w : List ℕ) (a b p q : ℕ) (r : Bool) : Type 0 where
  pub sound : r ≡ true → SameRange w a b p q
  pub complete : r ≡ false → SameRange w a b p q → ⊥

-- where the comparison with number i stands
abbrev pub span_at : List (ℕ × ℕ) → ℕ → ℕ × ℕ
span_at t i = get_or t i (0, 0)

-- at most 16 ranges, within the words
pub record Ranges (w : List ℕ) (t : List (ℕ × ℕ)) : Type 0 where
  pub few : length t ≤ 16
  pub each : (i : ℕ) → i < length t → ((span_at t i).0 ≤ (span_at t i).1) × ((span_at t i).1 ≤ length w)

pub record CanFind (w : List ℕ) (k q : ℕ) (t : List (ℕ × ℕ)) : Type 0 where
  pub from : k ≤ q
  pub inside : q ≤ length w
  pub ranges : Ranges w t

-- none of the first n ranges has the words from k up to q
pub record Missed (w : List ℕ) (k q : ℕ) (t : List (ℕ × ℕ)) (n : ℕ) : Type 0 where
  pub missed : (i : ℕ) → i < n → SameRange w (span_at t i).0 (span_at t i).1 k q → ⊥

-- r is the first of the ranges with these words
pub record FoundAt (w : List ℕ) (k q : ℕ) (t : List (ℕ × ℕ)) (r : ℕ) : Type 0 where
  pub inside : r < length t
  pub found : SameRange w (span_at t r).0 (span_at t r).1 k q
  pub first : Missed w k q t r

abbrev pub Finds : List ℕ → ℕ → ℕ → List (ℕ × ℕ) → Option ℕ → Type 0
Finds w k q t (Some r) = FoundAt w k q t r
Finds w k q t None = Missed w k q t (length t)

-- one more range at the number r, unless there are as many as the limit
abbrev pub Added : ℕ → ℕ → ℕ → List (ℕ × ℕ) → List (ℕ × ℕ) → Result ℕ Failure → Type 0
Added k q limit t₀ t r =
    MatchResult r (λ n. (length t₀ ≢ limit) × (n ≡ length t₀) × (t ≡ t₀ ++ (k, q) ∷ []))
    (λ e. (e ≡ TooLarge) × (length t₀ ≡ limit) × (t ≡ t₀))
