-- A list of the ends that the sizes make, with the masks of blocks behind them, is `EndsOf` the file.
-- Assumes nothing.
--     table-ends               the law
--     ends-listed              without the masks, it lists the ends
--     node_listed, listed_at   where what stands at a place ends, by such a list; it stands up to its end in the list
--     listed-blocks            with the masks of blocks it is `EndsOf` the file
use mathlib.Core.Path.{◌≡◌, sym, subst, ◌∙◌}
use mathlib.Core.List.{List}
use Prim.Native.Nat.{ℕ, ◌+◌, ◌<◌, ◌≤◌}
use native.Mathlib.Omega.{arith}
use lib.ListN.{length, get_or}
use Rattle.layout.specs.Nodes.{Node, expression_node, command_node, set_node, node_part}
use Rattle.layout.specs.Standing.{PartStands}
use Rattle.ends.specs.Ends.{EndsOf, EndsListed}
use Rattle.ends.specs.Places.{NodeAt}
use Rattle.ends.specs.Sizes.{sizes}
use Rattle.ends.specs.Blocks.{Blocked}
use Rattle.ends.proofs.Ends.{EndsBySize, node_sized}

-- between the ends and the masks of blocks, more may be written behind them
module _
    {file ends after : List ℕ} (f : (at : ℕ) → at < length file → get_or ends at 0 ≡ at + get_or (sizes file) at 0)
    (m : Blocked file ends after)
  where
    by_size : {at p : ℕ} → EndsBySize file at p → get_or after at 0 ≡ p
    by_size {at} s = m.kept at s.inside ∙ f at s.inside ∙ s.size

    pub table-ends : EndsOf file after
    table-ends = record {
      long = omega (arith, m.blocks.room);
      sized = λ at h. m.kept at h ∙ f at h;
      expression-end = λ e d at p s. by_size (node_sized file d (expression_node e) at p s);
      command-end = λ Γ c d at p s. by_size (node_sized file d (command_node Γ c) at p s);
      set-end = λ Γ q d at p s. by_size (node_sized file d (set_node Γ q) at p s);
      blocks = m.blocks;
    }

pub ends-listed : {file ends : List ℕ} → EndsOf file ends → EndsListed file ends
ends-listed o = record { room = o.blocks.room; sized = o.sized }

module _ {file ends : List ℕ} (o : EndsListed file ends) where
  pub node_listed : (x : Node) (d at p : ℕ) → PartStands file (node_part x) d at p → get_or ends at 0 ≡ p
  node_listed x d at p s = let e = node_sized file d x at p s in o.sized at e.inside ∙ e.size

  pub listed_at : (x : Node) (d at p : ℕ) → d ≤ 256 → PartStands file (node_part x) d at p → NodeAt file ends x at
  listed_at x d at p l s = record {
    levels = d;
    low = l;
    stands = subst (λ q. PartStands file (node_part x) d at q) (sym (node_listed x d at p s)) s;
  }

pub listed-blocks : {file ends after : List ℕ} → EndsListed file ends → Blocked file ends after → EndsOf file after
listed-blocks o m = table-ends o.sized m
