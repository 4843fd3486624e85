-- The programs of a file in its list of ends (document 02, request [3]): how many procedures there are, where they start, and
-- the masks of what they modify.
-- Working: `count-procedures` of proofs/FilePrograms says that the count is that of a file that stands, `procedures-known` of
-- proofs/Procedures that the masks have what the procedures modify. Assumes nothing.
--     procedure_count              the k of a word 62:k
--     StartsFrom, StartsListed    the list has where procedures and a main program start
--     MaskMade, Masked            the mask of a procedure has what its words assign, by the masks of lower numbers; each mask does
--     Masks                       the masks have what the procedures of a context modify
use Rattle.std.specs.Prelude.{◌≡◌, cond, List, [], ◌∷◌, ℕ, suc, ◌+◌, ◌-◌, ◌<◌, ◌≤◌, eqb, leb, length, get_or}
use Rattle.std.proofs.Math.Option.{some}
use Rattle.rules.specs.Context.{Procedure, Context, item_at}
use Rattle.layout.specs.Bytes.{kind_at, payload_at}
use Rattle.layout.specs.Program.{Program}
use Rattle.layout.specs.File.{File}
use Rattle.ends.specs.Mask.{ModifiedBy}
use Rattle.ends.specs.Blocks.{table_at, Marks}
use Rattle.ends.specs.Places.{end_at}
use Rattle.ends.specs.Procedures.{start_at, mask_at}

-- at most 16, as in a file that was read
unfoldable pub procedure_count : List ℕ → ℕ
procedure_count file = cond (eqb (kind_at file 1) 62) (cond (leb (payload_at file 1) 16) (payload_at file 1) 16) 0

module _ (file ends : List ℕ) where
  -- from number i on
  abbrev pub StartsFrom : List Program → Program → ℕ → Type 0
  StartsFrom [] f i = start_at file ends i ≡ f.start
  StartsFrom (g ∷ l) f i = (start_at file ends i ≡ g.start) × StartsFrom l f (suc i)

  pub record StartsListed (f : File) : Type 0 where
    pub starts : StartsFrom f.procedures f.main 0

  -- of procedure i, whose command stands from its start up to the end of what starts there
  pub record MaskMade (i : ℕ) : Type 0 where
    pub called : ℕ → ℕ
    pub lower : (j : ℕ) → j < i → called j ≡ mask_at file ends j
    pub marks : (from to : ℕ) → start_at file ends i ≡ from → from < length file → end_at ends from ≡ to → to ≤ length file →
        Marks called file (to - from) from (mask_at file ends i)

  pub record Masks (Γ : Context) : Type 0 where
    pub few : length Γ.procedures ≤ 16
    pub mask : (n : ℕ) (k : Procedure) → item_at Γ.procedures n ≡ some k → ModifiedBy k.body (mask_at file ends n)

-- the ends and the starts are as they were
pub record Masked (file before after : List ℕ) : Type 0 where
  pub same_length : length after ≡ length before
  pub kept : (at : ℕ) → at < table_at file + 17 → get_or after at 0 ≡ get_or before at 0
  pub made : (i : ℕ) → i < procedure_count file → MaskMade file after i
