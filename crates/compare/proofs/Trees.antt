-- The trees that are read at places are those that are written there.
-- Assumes nothing.
--     tree_is, tree-at            an expression; as the one that is read
--     part-is, in-range           its numbers; its words are in range
--     put_is, put-inside, put-replaces
--                                 what is put for an identifier: the assignment; in the file; in numbers
use mathlib.Core.Path.{◌≡◌, sym, ap, ap₂, subst, ◌∙◌}
use mathlib.Core.List.{List}
use Prim.Native.Nat.{ℕ, ◌/◌, ◌%◌, ◌≤◌}
use native.Mathlib.Omega.{arith}
use borrow.Author.Tests.{eq-eqb, ne_eqb}
use lib.ListN.{length}
use Rattle.language.specs.Syntax.{Sort, Expr, Assignment, to_scalar, to_array}
use Rattle.rules.specs.Words.{words}
use Rattle.rules.specs.Replace.{replacement}
use Rattle.layout.specs.Bytes.{payloads}
use Rattle.layout.specs.Nodes.{expression_node, AllInRange}
use Rattle.layout.proofs.Nodes.{node_deeper, node_range}
use Rattle.layout.proofs.Back.{expression-stands}
use Rattle.ends.specs.Places.{end_at, WrittenAt}
use Rattle.ends.proofs.Places.{node_inside}
use Rattle.matching.specs.Matching.{between, numbers}
use Rattle.matching.specs.Places.{part, ExpressionAt}
use Rattle.compare.specs.Trees.{read_tree, tree_at, RightSide, PutStands, put-scalar, put-array, put_assignment}
use Rattle.matching.specs.declared.cursor.Put.{Put}
use Rattle.matching.proofs.Numbers.{stands-between}
use Rattle.matching.proofs.Replaced.{Replaces, scalar-replaces, array-replaces}

module _ {file ends : List ℕ} where
  pub tree_is : {j : Sort} {e : Expr j} {at : ℕ} → WrittenAt file ends e at → tree_at file j at ≡ e
  unfolding tree_at
  tree_is {j} {e} {at} x =
      let s = x.stands in
      ap (read_tree j)
      (expression-stands file 256 e at (end_at ends at)
      (record { stand = s.stand; fit = node_deeper x.levels 256 x.low (expression_node e) s.fit })).back

  pub tree-at : {j : Sort} {at : ℕ} → ExpressionAt file ends j at → WrittenAt file ends (tree_at file j at) at
  tree-at {at = at} x = subst (λ e. WrittenAt file ends e at) (sym (tree_is x.there)) x.there

  -- the numbers of a written expression
  pub part-is : {k : Sort} {e : Expr k} {at : ℕ} → WrittenAt file ends e at → part file ends at ≡ numbers (words e)
  part-is {e = e} {at} x = stands-between file at (words e) (end_at ends at) x.stands.stand

  pub in-range : {k : Sort} {e : Expr k} {at : ℕ} → WrittenAt file ends e at → AllInRange (words e)
  in-range {e = e} x = node_range x.levels (expression_node e) x.stands.fit

  -- what is put for an identifier
  module _ {put : Put} where
    side_is : {j : Sort} {k x : ℕ} {e : Expr j} → RightSide file ends put k x e →
        (put.to ≤ length file) × (between file put.from put.to ≡ numbers (words e))
    side_is r =
        let y = r.there in
        (omega (arith, r.end_is, (node_inside y).within), ap (between file put.from) r.end_is ∙ part-is y)

    word-kind : {j : Sort} {k x : ℕ} {e : Expr j} → RightSide file ends put k x e → (put.word / payloads ≡ k) × (put.word % payloads ≡ x)
    word-kind r = (omega (arith, r.word-is, r.small), omega (arith, r.word-is, r.small))

    pub put_is : {a : Assignment} → PutStands file ends put a → put_assignment file put ≡ a
    unfolding put_assignment
    put_is (put-scalar r) =
        let w = word-kind r in
        rw (eq-eqb (put.word / payloads) 2 w.0) (ap₂ to_scalar w.1 (tree_is r.there))
    put_is (put-array r) =
        let w = word-kind r in
        rw (ne_eqb (put.word / payloads) 2 (λ e. omega (arith, e, w.0))) (ap₂ to_array w.1 (tree_is r.there))

    pub put-inside : {a : Assignment} → PutStands file ends put a → put.to ≤ length file
    put-inside (put-scalar r) = (side_is r).0
    put-inside (put-array r) = (side_is r).0

    pub put-replaces : {a : Assignment} → PutStands file ends put a → Replaces file put (replacement a)
    put-replaces (put-scalar {x = x} {e = e} r) =
        scalar-replaces file put x e r.small r.word-is (side_is r).1 (in-range r.there)
    put-replaces (put-array {x = x} {e = e} r) =
        array-replaces file put x e r.small r.word-is (side_is r).1 (in-range r.there)
