-- Sides of an implication by their places: written assertions, no deeper than the table's stack has room for.
-- Assumes nothing.
--     deep                   a written expression with as many levels left as can be
--     assertion-known        an assertion's place is in the list of ends
--     can-imply              a call of `implies` for two assertions
--     implies-at             what it answers
use mathlib.Core.Path.{◌≡◌, sym, subst}
use mathlib.Core.List.{List}
use Prim.Native.Nat.{ℕ}
use native.Mathlib.Omega.{arith}
use Rattle.language.specs.Syntax.{Sort, Boolean, Expr}
use Rattle.rules.specs.Context.{Context}
use Rattle.layout.specs.EvidenceWords.{expression_part}
use Rattle.layout.specs.Nodes.{expression_node}
use Rattle.layout.specs.Standing.{PartStands}
use Rattle.layout.proofs.Nodes.{node_deeper}
use Rattle.ends.specs.Ends.{EndsOf}
use Rattle.ends.specs.Places.{end_at, WrittenAt, PartKnown}
use Rattle.matching.specs.Places.{ExpressionAt}
use Rattle.implication.specs.Sides.{CanImply, Implied}
use Rattle.implication.specs.Sides.{Condition}
use Rattle.implication.specs.declared.Side.TheVariants.{One}
use Rattle.rule_laws.specs.Implications.{CanImplyAt, ImpliesAt}
use Rattle.ends.proofs.Places.{node_known}

module _ {file ends : List ℕ} where
  -- up to a place that is its end
  pub deep : {k : Sort} {e : Expr k} {at p : ℕ} → p ≡ end_at ends at → WrittenAt file ends e at →
      PartStands file (expression_part e) 256 at p
  deep {e = e} {at} h x =
      let fits = node_deeper x.levels 256 x.low (expression_node e) x.stands.fit in
      subst (λ p. PartStands file (expression_part e) 256 at p) (sym h) (record { stand = x.stands.stand; fit = fits })

  pub assertion-known : {at : ℕ} → EndsOf file ends → ExpressionAt file ends Boolean at → PartKnown file ends at
  assertion-known o x = node_known o x.there

  module _ {Γ : Context} {a b p q limit : ℕ} (l : Γ.limits.comparisons ≡ limit) (e : p ≡ end_at ends a)
      (h : q ≡ end_at ends b) where
    pub can-imply : CanImplyAt file ends Γ a b → CanImply file (One a p) (One b q) limit
    can-imply c = record {
      φ = c.left.tree;
      ψ = c.right.tree;
      levels = 256;
      low = omega arith;
      left_stands = deep e c.left.there;
      right_stands = deep h c.right.there;
      size = c.size;
      few = omega (arith, c.few);
    }

    pub implies-at : {r : Condition} → Implied file (One a p) (One b q) limit r → ImpliesAt file ends Γ a b r
    implies-at i = record { is = λ φ ψ x y. i.is φ ψ 256 256 (deep e x) (deep h y) Γ l }
