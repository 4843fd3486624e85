-- The procedures of a file in its list of ends (document 02, request [3]): behind the masks of blocks stand the places where the
-- programs start, up to 17, and then the masks of what the procedures modify, up to 16.
-- Working: `procedures-known` of scan/proofs/Procedures says that the list that is filled for a file has them. Assumes nothing.
--     start_at, mask_at             where a program starts; the mask of a procedure
--     ProcedureAt                 a procedure's body and contract stand at its places, and its mask has what it modifies
--     Procedures                  each procedure of a context does
use Rattle.std.specs.Prelude.{◌≡◌, List, ℕ, ◌+◌, ◌*◌, ◌≤◌, length, get_or}
use Rattle.std.proofs.Math.Option.{some}
use Rattle.rules.specs.Context.{Procedure, Context, item_at}
use Rattle.rules.specs.Resolved.{Resolved}
use Rattle.ends.specs.Mask.{ModifiedBy}
use Rattle.ends.specs.Blocks.{block_at}
pub use Rattle.ends.specs.Blocks.{table_at}
use Rattle.ends.specs.Places.{end_at, CommandAt, SetAt}

module _ (file ends : List ℕ) where
  abbrev pub start_at : ℕ → ℕ
  start_at n = get_or ends (table_at file + n) 0

  abbrev pub mask_at : ℕ → ℕ
  mask_at n = block_at ends (table_at file + 17 + 2 * n)

  pub record ProcedureAt (Γ : Context) (n : ℕ) (k : Procedure) : Type 0 where
    pub body : CommandAt file ends Γ k.body (start_at n)
    pub pre : SetAt file ends Γ k.pre (end_at ends (start_at n))
    pub post : SetAt file ends Γ k.post (end_at ends (end_at ends (start_at n)))
    pub resolved : Resolved Γ.procedures k.body
    pub mask : ModifiedBy k.body (mask_at n)

  pub record Procedures (Γ : Context) : Type 0 where
    pub few : length Γ.procedures ≤ 16
    pub room : table_at file + 49 ≤ length ends
    pub known : (n : ℕ) (k : Procedure) → item_at Γ.procedures n ≡ some k → ProcedureAt Γ n k
