-- Masks in a list, by the words and the list of ends.
-- Working: `filled_stored` of proofs/Stored says that the list that is filled is the layout's `stored`, `filled_masks` that a rule may
-- ask it. Assumes nothing.
--     OtherKind            the kinds of no command
--     RangeMarks           a mask has what the words of the part that starts at a place assign
--     CanMask              the masks of the words after a place are there
--     CanStore, Filled     room for the masks; what is left of a list when they are stored
--     MasksOf              each mask of a list has what the command at its place modifies
--     CanAsk               what asking for a command's mask asks for
use Rattle.std.specs.Prelude.{◌≡◌, List, ◌⊎◌, ℕ, ◌-◌, ◌<◌, ◌≤◌, length, get_or}
use Rattle.layout.specs.Bytes.{kind_at}
use Rattle.ends.specs.Blocks.{called_mask, Marks}
use Rattle.ends.specs.Ends.{EndsOf, EndsListed}
use Rattle.ends.specs.Places.{end_at, PartKnown}
use Rattle.scan.specs.Scan.{Modified}

-- the kinds of no command
abbrev pub OtherKind : ℕ → Type 0
OtherKind k = (k < 24) ⊎ ((31 < k) × (k ≡ 38 → ⊥))

module _ (file ends : List ℕ) where
  -- from a place up to the end of the part at `at`
  abbrev pub RangeMarks : ℕ → ℕ → ℕ → Type 0
  RangeMarks from at mask = Marks (called_mask file ends) file (end_at ends at - from) from mask

  pub record CanMask (masks : List ℕ) (at : ℕ) : Type 0 where
    pub listed : EndsListed file ends
    pub inside : at < length file
    pub room : length file ≤ length masks
    pub later : (j : ℕ) → at < j → j < length file → RangeMarks j j (get_or masks j 0)

  -- what starts with a word of no command modifies nothing
  pub record CanStore (masks : List ℕ) : Type 0 where
    pub listed : EndsListed file ends
    pub quiet : (at : ℕ) → at < length file → OtherKind (kind_at file at) → RangeMarks at at 0
    pub room : length file ≤ length masks

  pub record Filled (before after : List ℕ) : Type 0 where
    pub same_length : length after ≡ length before
    pub marks : (at : ℕ) → at < length file → RangeMarks at at (get_or after at 0)
    pub small : (at : ℕ) → at < length file → get_or after at 0 < 18446744073709551616
    pub kept : (at : ℕ) → length file ≤ at → get_or after at 0 ≡ get_or before at 0

  -- a list of no masks is one
  pub record MasksOf (masks : List ℕ) : Type 0 where
    pub mask : (at : ℕ) → at < length masks → Modified file ends at (end_at ends at) (get_or masks at 0)

  pub record CanAsk (masks : List ℕ) (c : ℕ) : Type 0 where
    pub ends_of : EndsOf file ends
    pub masks-of : MasksOf masks
    pub command : PartKnown file ends c
