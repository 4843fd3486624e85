-- Scans of a range of words, one word after the other.
-- Working: `modified_tree`, `unmarked_tree` and `closed_tree` of proofs/Trees say what they find where an expression, a
-- command or a set stands. Assumes nothing.
--     mentioned                     the identifier that a word is
--     marked                        a test of identifiers as a test of kind and payload
--     Modified, Unmarked, Closed    what the scans say of trees
use Rattle.std.specs.Prelude.{◌≡◌, Bool, cond, List, ℕ, ◌%◌, eqb}
use Rattle.std.proofs.Math.Option.{Option, none, some}
use Rattle.language.specs.Syntax.{Sort, Expr, Command}
use Rattle.language.specs.Modifies.{Identifier, scalar_of, array_of, identifiers}
use Rattle.rules.specs.Assertion.{Members}
use Rattle.rules.specs.Context.{Context}
use Rattle.rules.specs.Resolved.{Resolved}
use Rattle.rules.specs.Sets.{set_identifiers}
use Rattle.rules.specs.Tests.{unmodified, is_empty}
use Rattle.layout.specs.EvidenceWords.{expression_part, command_part, set_part}
use Rattle.layout.specs.Standing.{PartStands}
use Rattle.ends.specs.Mask.{bit, slot, ModifiedBy}
use Rattle.ends.specs.Blocks.{if_any}
use Rattle.ends.specs.Procedures.{Procedures}

-- kinds 2 and 16
unfoldable pub mentioned : ℕ → ℕ → Option Identifier
mentioned k p = cond (eqb k 2) (some (scalar_of (p % 32))) (cond (eqb k 16) (some (array_of (p % 32))) none)

-- an identifier that the mask has
abbrev pub marked : ℕ → ℕ → ℕ → Bool
marked mask k p = if_any (λ x. bit mask (slot x)) (mentioned k p)

-- the mask has what the command in the range modifies, in a file whose procedures the list of ends has
pub record Modified (file ends : List ℕ) (from to mask : ℕ) : Type 0 where
  pub command : (Γ : Context) → Procedures file ends Γ → (c : Command) (d : ℕ) →
      PartStands file (command_part Γ c) d from to → Resolved Γ.procedures c → ModifiedBy c mask

-- the test tells whether no identifier of what stands in the range is modified by a command whose mask is given
pub record Unmarked (file : List ℕ) (from to mask : ℕ) (r : Bool) : Type 0 where
  pub expression : {k : Sort} (e : Expr k) (d : ℕ) → PartStands file (expression_part e) d from to →
      (c : Command) → ModifiedBy c mask → r ≡ unmodified (identifiers e) c
  pub set : (Γ : Context) (q : Members) (d : ℕ) → PartStands file (set_part Γ q) d from to →
      (c : Command) → ModifiedBy c mask → r ≡ unmodified (set_identifiers q) c

-- the test tells whether the expression in the range has no identifier
pub record Closed (file : List ℕ) (from to : ℕ) (r : Bool) : Type 0 where
  pub expression : {k : Sort} (e : Expr k) (d : ℕ) → PartStands file (expression_part e) d from to →
      r ≡ is_empty (identifiers e)
