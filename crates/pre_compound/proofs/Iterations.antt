-- The rules of `while` and `for` (document 01, rules 21 and 30).
-- Assumes nothing.
--     while-fails, can-repeat, while-rule    rule 21
--     for-fails, can-mean, for-rule          rule 30
use Rattle.std.specs.Prelude.{Err}
use Rattle.implication.specs.declared.Failure.TheVariants.{Fails}
use mathlib.Core.Path.{◌≡◌, ap, subst}
use mathlib.Core.Bool.{Bool}
use mathlib.Core.List.{List}
use Prim.Native.Nat.{ℕ, ◌+◌}
use native.Mathlib.Omega.{arith}
use Rattle.rules.specs.Context.{Context}
use Rattle.rules.specs.Condition.{by_form}
use Rattle.rules.specs.Evidence.{row, Parts, assertion, command, child, done, ◌&◌, pre21, pre30}
use Rattle.rules.specs.Judge.{misfit, pre_rule, judge}
use Rattle.layout.specs.Bytes.{kind_at}
use Rattle.implication.specs.Sides.{Condition}
use Rattle.ends.specs.Ends.{EndsOf}
use Rattle.goals.specs.Conditions.{condition_of}
use Rattle.goals.specs.Goals.{CanTry, StepOf, pre-stands}
use Rattle.goals.specs.declared.Goal.TheVariants.{Pre}
use Rattle.ends.specs.Places.{CommandAt, PartKnown}
use Rattle.ends.proofs.Places.{node_known}
use Rattle.goals.proofs.Evidence.{Placed}
use Rattle.goals.proofs.Comes.{comes, one-child, PreComes, pre-rule}
use Rattle.rule_laws.specs.Sameness.{CanMean, MeaningAt}
use Rattle.rule_laws.proofs.Commands.{is-while, is-for, other-kind, other-than_while, other-than_for}
use Rattle.rule_laws.proofs.Trying.{parts-of, up-to, tested}
use Rattle.pre_compound.specs.Conditions.{CanRepeat, RepeatsAt}
use Rattle.pre_compound.proofs.Goal.{here, command-head, first-carried, misfit-rule}

module _ {file ends : List ℕ} {Γ : Context} {f c g at : ℕ} (can : CanTry file ends Γ 21 (Pre f c g) at) where
  pub while-fails : (kind_at file c ≡ 30 → ⊥) → StepOf file ends Γ (Pre f c g) at (Err Fails)
  unfolding pre_rule
  while-fails h = misfit-rule can pre21 λ φ φ' e t y. other-than_while Γ misfit e _ (other-kind y h)

  module _ (h : kind_at file c ≡ 30) where
    pub can-repeat : {limit : ℕ} → Γ.limits.comparisons ≡ limit → CanRepeat file ends limit (at + 1) (c + 1) g f
    can-repeat l =
        let x = here can in
        record {
          ends_of = can.can.ends_of;
          size = can.can.size;
          few = omega (arith, can.can.few);
          first = first-carried can pre21;
          test = record { tree = _; there = (is-while can.can.ends_of x.command-at h).test_at };
          second = record { tree = x.φ'; there = x.second_at };
          whole = record { tree = x.φ; there = x.first-at };
        }

    pub while-rule : {limit : ℕ} → Γ.limits.comparisons ≡ limit → {r : Condition} →
        RepeatsAt file ends limit (at + 1) (c + 1) g f r → StepOf file ends Γ (Pre f c g) at r
    unfolding pre_rule judge by_form
    while-rule l {r} repeats = pre-rule can pre21 go
      where
        go : PreComes Γ file ends f c g at pre21 r
        go φ φ' e (assertion φ₀ & child k & done) d end x y z (a, (i, k-at, last)) =
            let s = is-while can.can.ends_of y h in
            comes _ r (ap (λ u. pre_rule Γ pre21 φ₀ (judge Γ k) φ u φ') s.is)
            (repeats.is φ₀ s.test φ' φ a s.test_at z x Γ l)
            (one-child (up-to (pre-stands a s.body_at x k-at) last))

-- the command that is carried is in the list of ends
carried-known : (Γ : Context) (file ends : List ℕ) (d at end : ℕ) → EndsOf file ends → (t : Parts (row pre30).after) →
    Placed Γ file ends d t at end → PartKnown file ends at
carried-known Γ file ends d at end o (command e & t) (a, x) = node_known o a.there

module _ {file ends : List ℕ} {Γ : Context} {f c g at : ℕ} (can : CanTry file ends Γ 30 (Pre f c g) at) where
  pub for-fails : (kind_at file c ≡ 31 → ⊥) → StepOf file ends Γ (Pre f c g) at (Err Fails)
  unfolding pre_rule
  for-fails h = misfit-rule can pre30 λ φ φ' e t y. other-than_for Γ misfit e _ (other-kind y h)

  module _ (h : kind_at file c ≡ 31) where
    pub can-mean : CanMean file ends (at + 1) c
    can-mean =
        let o = can.can.ends_of in
        let x = parts-of can pre30 in
        record {
          ends_of = o;
          command = carried-known Γ file ends x.levels (at + 1) x.end o x.parts x.parts-placed;
          head = command-head can;
          body = node_known o (is-for o (here can).command-at h).parts.body_at;
        }

    pub for-rule : {b : Bool} → MeaningAt file ends (at + 1) c b → {r : Condition} → r ≡ condition_of b →
        StepOf file ends Γ (Pre f c g) at r
    unfolding pre_rule judge by_form
    for-rule means {r} n = pre-rule can pre30 go
      where
        go : PreComes Γ file ends f c g at pre30 r
        go φ φ' e (command p & child k & done) d end x y z (a, (i, k-at, last)) =
            let s = is-for can.can.ends_of y h in
            let there = subst (λ u. CommandAt file ends Γ u c) s.is y.there in
            comes _ r (ap (λ u. pre_rule Γ pre30 p (judge Γ k) φ u φ') s.is)
            (tested n (means.is Γ p s.counter s.bound s.body a.there there))
            (one-child (up-to (pre-stands x a z k-at) last))
