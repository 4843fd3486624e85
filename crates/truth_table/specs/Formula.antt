-- Formulas over numbered leaves, their spelling as bytes, and their value under an assignment of bits.
-- Working: `table-settled` of implication/proofs/Meaning ties what the table settles to document 01's "Implies".
-- Assumes nothing.
--     Formula, value                a formula; its value where each leaf has one
--     bit, numbered                 the bits of a number; the assignment that a number is
--     spell, depth, Small           the bytes of a formula; its depth; each leaf has one of 16 numbers
--     Spelled, IsFormula            bytes are a formula; and one for which the stack has room
--     word, Block                   the word of a formula from those of its leaves; those of 64 assignments
--     lane, FourBlocks              the words of one block among four; those of four blocks
--     CanWork                       a stack has room for it
--     Ones, Full                    a word of ones; four of them
--     Gives, GivesFour              the words that a formula gives
--     Settles, Every                whether every assignment makes a formula true
use Rattle.std.specs.Prelude.{◌≡◌, Bool, true, false, not, ◌&&◌, ◌||◌, List, [], ◌∷◌, ℕ, zero, suc, ◌+◌, ◌*◌, ◌-◌, ◌/◌, ◌%◌, ◌^◌, ◌<◌, ◌≤◌, max, eqb, length, get_or, take, map}
use Rattle.std.specs.Int.Bits.{bit_and, bit_or}

pub data Formula : Type 0 where
  leaf : ℕ → Formula
  fixed : Bool → Formula
  conj disj : Formula → Formula → Formula
  negated : Formula → Formula

unfoldable pub value : (ℕ → Bool) → Formula → Bool
value ρ (leaf i) = ρ i
value ρ (fixed b) = b
value ρ (conj f g) = value ρ f && value ρ g
value ρ (disj f g) = value ρ f || value ρ g
value ρ (negated f) = not (value ρ f)

-- the bit of x at k, as a number
unfoldable pub bit : ℕ → ℕ → ℕ
bit x zero = x % 2
bit x (suc k) = bit (x / 2) k

-- assignment number k gives leaf i the bit i of k
unfoldable pub numbered : ℕ → ℕ → Bool
numbered k i = eqb (bit k i) 1

abbrev pub fixed_byte : Bool → ℕ
fixed_byte false = 16
fixed_byte true = 17

-- the bytes of a formula, in front of others: 0 to 15 a leaf, 16 false, 17 true, 18 and, 19 or, 20 not
unfoldable pub spell : Formula → List ℕ → List ℕ
spell (leaf i) p = i ∷ p
spell (fixed b) p = fixed_byte b ∷ p
spell (conj f g) p = 18 ∷ spell f (spell g p)
spell (disj f g) p = 19 ∷ spell f (spell g p)
spell (negated f) p = 20 ∷ spell f p

unfoldable pub depth : Formula → ℕ
depth (leaf i) = 1
depth (fixed b) = 1
depth (conj f g) = suc (max (depth f) (depth g))
depth (disj f g) = suc (max (depth f) (depth g))
depth (negated f) = suc (depth f)

-- each leaf's number is below 16
unfoldable pub Small : Formula → Type 0
Small (leaf i) = i < 16
Small (fixed b) = Unit {0}
Small (conj f g) = Small f × Small g
Small (disj f g) = Small f × Small g
Small (negated f) = Small f

-- the first n bytes are the formula
pub record Spelled (p : List ℕ) (n : ℕ) (f : Formula) : Type 0 where
  pub bytes : take n p ≡ spell f []
  pub small : Small f

-- they are one for which a stack of so many words has room
pub record IsFormula (p : List ℕ) (n room : ℕ) : Type 0 where
  pub formula : Formula
  pub is : Spelled p n formula
  pub within : n ≤ length p
  pub low : depth formula ≤ room

-- a word of each row: those of one block
abbrev pub lane : ℕ → List (List ℕ) → List ℕ
lane j t = map (λ x. get_or x j 0) t

-- the bytes are a formula for which the stack has room
pub record CanWork (p : List ℕ) (n : ℕ) (stack : List (List ℕ)) : Type 0 where
  pub formula : IsFormula p n (length stack)

-- the word that a formula gives where leaf i has the word tb[i]
unfoldable pub word : List ℕ → Formula → ℕ
word tb (leaf i) = get_or tb i 0
word tb (fixed b) = get_or tb (fixed_byte b) 0
word tb (conj f g) = bit_and (word tb f) (word tb g)
word tb (disj f g) = bit_or (word tb f) (word tb g)
word tb (negated f) = 2 ^ 64 - 1 - word tb f

-- the words of block b: bit j of leaf i is bit i of the number 64 × b + j
pub record Block (b : ℕ) (tb : List ℕ) : Type 0 where
  pub leaves : (i j : ℕ) → i < 16 → j < 64 → bit (get_or tb i 0) j ≡ bit (64 * b + j) i
  pub none : get_or tb 16 0 ≡ 0
  pub all : get_or tb 17 0 ≡ 2 ^ 64 - 1
  pub fits : (i : ℕ) → get_or tb i 0 < 2 ^ 64

-- the rows of four blocks from b on
pub record FourBlocks (b : ℕ) (t : List (List ℕ)) : Type 0 where
  pub each : (j : ℕ) → j < 4 → Block (b + j) (lane j t)

abbrev pub spread_of : ℕ → ℕ
spread_of zero = 0
spread_of (suc n) = 2 ^ 64 - 1

-- a word of ones
abbrev pub Ones : ℕ → Type 0
Ones x = x ≡ 2 ^ 64 - 1

pub record Full (x : List ℕ) (r : Bool) : Type 0 where
  pub all : r ≡ true → (j : ℕ) → j < 4 → Ones (get_or x j 0)
  pub some : r ≡ false → (j : ℕ) × (j < 4) × (Ones (get_or x j 0) → ⊥)

pub record Gives (p : List ℕ) (n : ℕ) (tb : List ℕ) (r : ℕ) : Type 0 where
  pub gives : (f : Formula) → Spelled p n f → r ≡ word tb f

pub record GivesFour (p : List ℕ) (n : ℕ) (t : List (List ℕ)) (r : List ℕ) : Type 0 where
  pub each : (j : ℕ) → j < 4 → Gives p n (lane j t) (get_or r j 0)

-- whether every assignment makes f true: those below n were tried, and one that fails is any number
pub record Settles (n : ℕ) (f : Formula) (r : Bool) : Type 0 where
  pub sound : r ≡ true → (k : ℕ) → k < n → value (numbered k) f ≡ true
  pub witness : r ≡ false → (k : ℕ) × (value (numbered k) f ≡ false)

pub record Every (p : List ℕ) (n b : ℕ) (r : Bool) : Type 0 where
  pub every : (f : Formula) → Spelled p n f → Settles (64 * b) f r
