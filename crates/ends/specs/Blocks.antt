-- What words assign, as masks, and masks of whole blocks of 32 words, which stand behind the ends.
-- Working: `marks-any` of proofs/Marks says that a mask has what so many words assign, `modified_tree` of
-- scan/proofs/Trees that this is what a command there modifies. Assumes nothing.
--     block_at              a mask in a list of ends, in two halves
--     table_at              the place past the masks of blocks
--     procedure_mask, called_mask
--                          the mask of a procedure, of those that stand from a place on; of those of a file
--     written              the mask of what a word assigns
--     if_any, any_in         a test of a thing, if there is one; a test of kind and payload passes at one of so many words
--     assigns              a word assigns an identifier
--     with_mark, marks_in    a mask with another, if there is one; with what so many words assign
--     Marks                the mask has what so many words assign
--     CanBlock, Blocks     room for the masks; each whole block has its mask
--     Blocked              what is left when they are written
use Rattle.std.specs.Prelude.{◌≡◌, Bool, false, ◌||◌, cond, List, ℕ, zero, suc, ◌+◌, ◌*◌, ◌/◌, ◌%◌, ◌^◌, ◌<◌, ◌≤◌, eqb, ltb, length, get_or}
use Rattle.std.proofs.Math.Option.{Option, none, some}
use Rattle.std.specs.Int.Bits.{bit_or}
use Rattle.language.specs.Modifies.{Identifier, scalar_of, array_of}
use Rattle.layout.specs.Bytes.{kind_at, payload_at}
use Rattle.ends.specs.Mask.{bit, slot}

-- scalars, then arrays
abbrev pub block_at : List ℕ → ℕ → ℕ
block_at ends at = get_or ends at 0 + 4294967296 * get_or ends (at + 1) 0

abbrev pub table_at : List ℕ → ℕ
table_at file = length file + 2 * (length file / 32)

-- two numbers each; there are up to 16 procedures
unfoldable pub procedure_mask : List ℕ → ℕ → ℕ → ℕ
procedure_mask ends from p = cond (ltb p 16) (block_at ends (from + 2 * p)) 0

-- behind the starts of the programs, of which there are up to 17
abbrev pub called_mask : List ℕ → List ℕ → ℕ → ℕ
called_mask file ends p = procedure_mask ends (table_at file + 17) p

-- kinds 27 and 28, 31, whose payload is q + 32 × m, and 38, a call of a procedure, whose mask `called` gives
unfoldable pub written : (ℕ → ℕ) → ℕ → ℕ → Option ℕ
written called k p =
    cond (eqb k 27) (some (2 ^ slot (scalar_of (p % 32))))
    (cond (eqb k 28) (some (2 ^ slot (array_of (p % 32))))
    (cond (eqb k 31) (some (2 ^ slot (scalar_of (p % 32)))) (cond (eqb k 38) (some (called p)) none)))

abbrev pub if_any : {A : Type 0} → (A → Bool) → Option A → Bool
if_any f none = false
if_any f (some x) = f x

-- at one of the n words from `at` on
unfoldable pub any_in : (ℕ → ℕ → Bool) → List ℕ → ℕ → ℕ → Bool
any_in t file zero at = false
any_in t file (suc n) at = t (kind_at file at) (payload_at file at) || any_in t file n (suc at)

abbrev pub assigns : (ℕ → ℕ) → Identifier → ℕ → ℕ → Bool
assigns called x k p = if_any (λ m. bit m (slot x)) (written called k p)

abbrev pub with_mark : ℕ → Option ℕ → ℕ
with_mark m none = m
with_mark m (some n) = bit_or m n

-- the mask m with what the n words from `at` on assign
unfoldable pub marks_in : (ℕ → ℕ) → List ℕ → ℕ → ℕ → ℕ → ℕ
marks_in called file zero at m = m
marks_in called file (suc n) at m =
    marks_in called file n (suc at) (with_mark m (written called (kind_at file at) (payload_at file at)))

-- the n words from `at` on
pub record Marks (called : ℕ → ℕ) (file : List ℕ) (n at mask : ℕ) : Type 0 where
  pub marks : (x : Identifier) → bit mask (slot x) ≡ any_in (assigns called x) file n at

module _ (file ends : List ℕ) where
  -- 17 starts and 16 masks of procedures stand behind the masks of blocks
  pub record CanBlock : Type 0 where
    pub room : table_at file + 49 ≤ length ends

  -- block b is the 32 words from 32 × b on
  pub record Blocks : Type 0 where
    pub room : table_at file + 49 ≤ length ends
    pub block : (b : ℕ) → b < length file / 32 →
        Marks (called_mask file ends) file 32 (32 * b) (block_at ends (length file + 2 * b))

-- the ends are as they were, and so is all that stands behind the masks of blocks
pub record Blocked (file before after : List ℕ) : Type 0 where
  pub same_length : length after ≡ length before
  pub kept : (at : ℕ) → at < length file → get_or after at 0 ≡ get_or before at 0
  pub rest-kept : (at : ℕ) → table_at file ≤ at → get_or after at 0 ≡ get_or before at 0
  pub blocks : Blocks file after
