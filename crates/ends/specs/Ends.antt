-- A list that has, at the first place of each expression, command and set of a file, the place past it, and behind these places the
-- masks of what its blocks of words assign.
-- Working: `table-ends` of proofs/Table says that the list that is filled for a file is such a list. Assumes nothing.
--     EndsOf        the list is such a list
--     EndsListed    the ends of a file's words, without masks of blocks
use Rattle.std.specs.Prelude.{◌≡◌, List, ℕ, ◌+◌, ◌<◌, ◌≤◌, length, get_or}
use Rattle.language.specs.Syntax.{Sort, Expr, Command}
use Rattle.rules.specs.Assertion.{Members}
use Rattle.rules.specs.Context.{Context}
use Rattle.layout.specs.EvidenceWords.{expression_part, command_part, set_part}
use Rattle.layout.specs.Standing.{PartStands}
use Rattle.ends.specs.Sizes.{sizes}
use Rattle.ends.specs.Blocks.{table_at, Blocks}

pub record EndsOf (file ends : List ℕ) : Type 0 where
  pub long : length file ≤ length ends
  pub sized : (at : ℕ) → at < length file → get_or ends at 0 ≡ at + get_or (sizes file) at 0
  pub expression-end : {k : Sort} (e : Expr k) (d at p : ℕ) →
      PartStands file (expression_part e) d at p → get_or ends at 0 ≡ p
  pub command-end : (Γ : Context) (c : Command) (d at p : ℕ) →
      PartStands file (command_part Γ c) d at p → get_or ends at 0 ≡ p
  pub set-end : (Γ : Context) (m : Members) (d at p : ℕ) →
      PartStands file (set_part Γ m) d at p → get_or ends at 0 ≡ p
  pub blocks : Blocks file ends

-- with room for the masks of blocks, and for what stands behind them
pub record EndsListed (file ends : List ℕ) : Type 0 where
  pub room : table_at file + 49 ≤ length ends
  pub sized : (at : ℕ) → at < length file → get_or ends at 0 ≡ at + get_or (sizes file) at 0
