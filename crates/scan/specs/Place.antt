-- The scan of what starts at a place, up to the end that a list of ends has for it.
-- Working: `node_starts` of proofs/Places says that what stands at a place starts there so, `closed_place` of proofs/Places what
-- the scan says of it. Assumes nothing.
--     StartsAt    something starts at the place and ends inside the file
--     ClosedAt    what the scan says of trees
use Rattle.std.specs.Prelude.{◌≡◌, Bool, List, ℕ, ◌<◌, ◌≤◌, get_or}
use Rattle.language.specs.Syntax.{Sort, Expr}
use Rattle.language.specs.Modifies.{identifiers}
use Rattle.rules.specs.Tests.{is_empty}
use Rattle.layout.specs.Bytes.{word_count}
use Rattle.layout.specs.EvidenceWords.{expression_part}
use Rattle.layout.specs.Standing.{PartStands}
use Rattle.ends.specs.Ends.{EndsOf}

pub record StartsAt (file ends : List ℕ) (at : ℕ) : Type 0 where
  pub places : EndsOf file ends
  pub inside : at < word_count file
  pub past-inside : get_or ends at 0 ≤ word_count file

-- the test tells whether the expression there has no identifier
pub record ClosedAt (file : List ℕ) (at : ℕ) (r : Bool) : Type 0 where
  pub expression : {k : Sort} (e : Expr k) (d p : ℕ) → PartStands file (expression_part e) d at p →
      r ≡ is_empty (identifiers e)
