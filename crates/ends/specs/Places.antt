-- What stands at a place, up to its end in the list of ends.
-- Working: `node_at` of proofs/Places says that what stands in a file with its ends listed stands so, `parts_at` that its parts
-- do. Assumes nothing.
--     end_at                          the place past the part that starts at a place
--     PartKnown                      a place is in the list of ends, and its end lies further on, in the file
--     NodeAt                         an expression, a command or a set, no deeper than the judge's stack has room for
--     WrittenAt, CommandAt, SetAt    an expression, a command, a set
--     NodesAt                        some of them, one after the other
use Rattle.std.specs.Prelude.{◌≡◌, List, [], ◌∷◌, ℕ, ◌<◌, ◌≤◌, length, get_or}
use Rattle.language.specs.Syntax.{Sort, Expr, Command}
use Rattle.rules.specs.Assertion.{Members}
use Rattle.rules.specs.Context.{Context}
use Rattle.layout.specs.Nodes.{Node, expression_node, command_node, set_node, node_part}
use Rattle.layout.specs.Standing.{PartStands}

abbrev pub end_at : List ℕ → ℕ → ℕ
end_at ends at = get_or ends at 0

pub record PartKnown (file ends : List ℕ) (at : ℕ) : Type 0 where
  pub listed : at < length ends
  pub start : at < end_at ends at
  pub inside : end_at ends at ≤ length file

module _ (file ends : List ℕ) where
  pub record NodeAt (x : Node) (at : ℕ) : Type 0 where
    pub levels : ℕ
    pub low : levels ≤ 256
    pub stands : PartStands file (node_part x) levels at (end_at ends at)

  abbrev pub WrittenAt : {k : Sort} → Expr k → ℕ → Type 0
  WrittenAt e at = NodeAt (expression_node e) at

  abbrev pub CommandAt : Context → Command → ℕ → Type 0
  CommandAt Γ c at = NodeAt (command_node Γ c) at

  abbrev pub SetAt : Context → Members → ℕ → Type 0
  SetAt Γ p at = NodeAt (set_node Γ p) at

  abbrev pub NodesAt : List Node → ℕ → ℕ → Type 0
  NodesAt [] at p = at ≡ p
  NodesAt (x ∷ l) at p = NodeAt x at × NodesAt l (end_at ends at) p
