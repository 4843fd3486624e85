-- The rule of an `if` (document 01, rule 20).
-- Assumes nothing.
--     if_fails            a command of another form
--     can-split, if_rule  an `if`: what the code asks for; the rule
use Rattle.std.specs.Prelude.{Err}
use Rattle.implication.specs.declared.Failure.TheVariants.{Fails}
use mathlib.Core.Path.{◌≡◌, sym, ap, subst}
use mathlib.Core.Bool.{Bool}
use mathlib.Core.List.{List}
use Prim.Native.Nat.{ℕ, ◌+◌}
use Rattle.rules.specs.Context.{Context}
use Rattle.rules.specs.Condition.{by_form}
use Rattle.rules.specs.Evidence.{row, Parts, assertion, child, done, ◌&◌, pre20}
use Rattle.rules.specs.Judge.{misfit, pre_rule, judge}
use Rattle.layout.specs.Bytes.{kind_at}
use Rattle.language.specs.Syntax.{Boolean}
use Rattle.ends.specs.Places.{end_at}
use Rattle.matching.specs.Places.{ExpressionAt}
use Rattle.implication.specs.Sides.{Condition}
use Rattle.goals.specs.Conditions.{condition_of}
use Rattle.goals.specs.Goals.{CanTry, StepOf, pre-stands}
use Rattle.goals.specs.declared.Goal.TheVariants.{Pre}
use Rattle.ends.proofs.Places.{at_place}
use Rattle.goals.proofs.Evidence.{Placed}
use Rattle.goals.proofs.Comes.{comes, two-children, PreComes, pre-rule}
use Rattle.rule_laws.proofs.Commands.{is-if, other-kind, other-than_if}
use Rattle.rule_laws.proofs.Trying.{parts-of, up-to, tested}
use Rattle.pre_compound.specs.Conditions.{CanSplit, SplitAt}
use Rattle.pre_compound.proofs.Goal.{here, first-boolean, misfit-rule}

-- the two assertions that are carried
carried : (Γ : Context) (file ends : List ℕ) (d at end : ℕ) (t : Parts (row pre20).after) →
    Placed Γ file ends d t at end → ExpressionAt file ends Boolean at × ExpressionAt file ends Boolean (end_at ends at)
carried Γ file ends d at end (assertion φ₁ & assertion φ₂ & t) (a, (b, x)) =
    (record { tree = φ₁; there = a }, record { tree = φ₂; there = b })

module _ {file ends : List ℕ} {Γ : Context} {f c g at : ℕ} (can : CanTry file ends Γ 20 (Pre f c g) at) where
  pub if_fails : (kind_at file c ≡ 29 → ⊥) → StepOf file ends Γ (Pre f c g) at (Err Fails)
  unfolding pre_rule
  if_fails h = misfit-rule can pre20 λ φ φ' e t y. other-than_if Γ misfit e _ (other-kind y h)

  module _ (h : kind_at file c ≡ 29) {q : ℕ} (i : q ≡ end_at ends (at + 1)) where
    pub can-split : CanSplit file ends f (c + 1) (at + 1) q
    can-split =
        let o = can.can.ends_of in
        let x = parts-of can pre20 in
        let k = carried Γ file ends x.levels (at + 1) x.end x.parts x.parts-placed in
        record {
          ends_of = o;
          whole = first-boolean can;
          test = record { tree = _; there = (is-if o (here can).command-at h).test_at };
          first = k.0;
          second = subst (ExpressionAt file ends Boolean) (sym i) k.1;
        }

    pub if_rule : {b : Bool} → SplitAt file ends f (c + 1) (at + 1) q b → {r : Condition} → r ≡ condition_of b →
        StepOf file ends Γ (Pre f c g) at r
    unfolding pre_rule judge by_form
    if_rule split {r} n = pre-rule can pre20 go
      where
        go : PreComes Γ file ends f c g at pre20 r
        go φ φ' e (assertion φ₁ & assertion φ₂ & child k & child l & done) d end x y z
            (a, (b, (j, k-at, (m, l-at, last)))) =
            let s = is-if can.can.ends_of y h in
            comes _ r (ap (λ u. pre_rule Γ pre20 φ₁ φ₂ (judge Γ k) (judge Γ l) φ u φ') s.is)
            (tested n (split.is φ s.test φ₁ φ₂ x s.test_at a (at_place i b)))
            (two-children (pre-stands a s.first-at z k-at)
            (up-to (pre-stands b s.second_at z l-at) last))
