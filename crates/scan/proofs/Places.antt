-- What stands at a place starts there and ends where the list of ends has it.
-- Assumes nothing.
--     node_starts     of an expression, a command or a set
--     closed_place    the scan up to that end
use mathlib.Core.Path.{sym, subst}
use mathlib.Core.Bool.{Bool}
use mathlib.Core.List.{List}
use Prim.Native.Nat.{ℕ}
use native.Mathlib.Omega.{arith}
use lib.ListN.{get_or}
use Rattle.layout.specs.EvidenceWords.{expression_part}
use Rattle.layout.specs.Nodes.{Node, node_part}
use Rattle.layout.specs.Standing.{PartStands}
use Rattle.layout.proofs.Nodes.{node_inside}
use Rattle.ends.specs.Ends.{EndsOf}
use Rattle.ends.proofs.Places.{node_end}
use Rattle.scan.specs.Scan.{Closed}
use Rattle.scan.specs.Place.{StartsAt, ClosedAt}

pub node_starts : {file ends : List ℕ} (h : EndsOf file ends) (x : Node) (d at p : ℕ) → PartStands file (node_part x) d at p →
    StartsAt file ends at
node_starts h x d at p s =
    let i = node_inside x s in
    let e = node_end h x d at p s in
    record { places = h; inside = omega arith; past-inside = omega arith }

pub closed_place : (file ends : List ℕ) (at : ℕ) → StartsAt file ends at → (r : Bool) → Closed file at (get_or ends at 0) r →
    ClosedAt file at r
closed_place file ends at h r m = record {
  expression = λ e d p s.
      m.expression e d
      (subst (λ q. PartStands file (expression_part e) d at q) (sym (h.places.expression-end e d at p s)) s);
}
