-- What stands at a place, by its end in the list of ends: its first word, and its parts at their places.
-- Assumes nothing.
--     node_end, node_at       where it ends; it stands up to its end in the list
--     node_then               the same, before what starts there
--     parts_at                its parts stand one after the other, from the next place on
--     NodeHead, node_head     its first word: the kind and the payload there
--     node_inside, node_known     it has words, and ends in the file; its place is in the list of ends
--     at_place, known-to      at the same place by another name
use mathlib.Core.Path.{◌≡◌, sym, subst}
use mathlib.Core.List.{List, [], ◌∷◌, map}
use Prim.Native.Nat.{ℕ, ◌+◌, ◌≤◌}
use native.Mathlib.Omega.{arith}
use Rattle.layout.specs.Bytes.{kind_at, payload_at}
use Rattle.layout.specs.Nodes.{Node, expression_node, command_node, set_node, node_part, head_of, parts_of, kind_of, content_of, InRange}
use Rattle.layout.specs.Standing.{PartStands, Chain}
use Rattle.layout.proofs.Nodes.{Inside, with_levels}
use Rattle.layout.proofs.Nodes as nodes
use Rattle.ends.specs.Ends.{EndsOf}
use Rattle.ends.specs.Places.{end_at, PartKnown, NodeAt, NodesAt}

module _ {file ends : List ℕ} (o : EndsOf file ends) where
  pub node_end : (x : Node) (d at p : ℕ) → PartStands file (node_part x) d at p → p ≡ end_at ends at
  node_end (expression_node e) d at p s = sym (o.expression-end e d at p s)
  node_end (command_node Γ c) d at p s = sym (o.command-end Γ c d at p s)
  node_end (set_node Γ m) d at p s = sym (o.set-end Γ m d at p s)

  pub node_at : (x : Node) (d at p : ℕ) → d ≤ 256 → PartStands file (node_part x) d at p → NodeAt file ends x at
  node_at x d at p l s = record {
    levels = d;
    low = l;
    stands = subst (λ q. PartStands file (node_part x) d at q) (node_end x d at p s) s;
  }

  -- it stands before what starts where it ends
  pub node_then : (x : Node) (d : ℕ) {at q : ℕ} → d ≤ 256 → (P : ℕ → Type 0) → PartStands file (node_part x) d at q → P q →
      NodeAt file ends x at × P (end_at ends at)
  node_then x d {at} {q} l P s y = (node_at x d at q l s, subst P (node_end x d at q s) y)

  nodes_at : (l : List Node) (d at p : ℕ) → d ≤ 256 → Chain file (map node_part l) d at p → NodesAt file ends l at p
  nodes_at [] d at p h c = c
  nodes_at (x ∷ l) d at p h c = node_then x d h (λ q. NodesAt file ends l q p) c.1 (nodes_at l d c.0 p h c.2)

  pub parts_at : {x : Node} {at : ℕ} → NodeAt file ends x at → NodesAt file ends (parts_of x) (at + 1) (end_at ends at)
  parts_at {x} {at} y =
      let l = y.low in
      with_levels x y.levels y.stands λ n e z.
      nodes_at (parts_of x) n (at + 1) (end_at ends at) (omega arith) z.parts_at

pub record NodeHead (file : List ℕ) (x : Node) (at : ℕ) : Type 0 where
  pub in-range : InRange (head_of x)
  pub kind : kind_at file at ≡ kind_of (head_of x)
  pub content : payload_at file at ≡ content_of (head_of x)

module _ {file ends : List ℕ} where
  pub node_head : {x : Node} {at : ℕ} → NodeAt file ends x at → NodeHead file x at
  node_head {x} y =
      with_levels x y.levels y.stands λ n e z. record { in-range = z.in-range; kind = z.kind; content = z.content }

  pub node_inside : {x : Node} {at : ℕ} → NodeAt file ends x at → Inside file at (end_at ends at)
  node_inside {x} y = nodes.node_inside x y.stands

  pub node_known : {x : Node} {at : ℕ} → EndsOf file ends → NodeAt file ends x at → PartKnown file ends at
  node_known o y =
      let i = node_inside y in
      let l = o.long in
      record { listed = omega arith; start = i.start; inside = i.within }

  -- at the same place by another name
  pub at_place : {x : Node} {i j : ℕ} → j ≡ i → NodeAt file ends x i → NodeAt file ends x j
  at_place {x} h y = subst (λ n. NodeAt file ends x n) (sym h) y

  pub known-to : {i j : ℕ} → j ≡ i → PartKnown file ends i → PartKnown file ends j
  known-to h x = subst (λ n. PartKnown file ends n) (sym h) x
