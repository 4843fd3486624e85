-- Rules 16 and 17 of sets: sets together.
-- Assumes nothing.
--     Sets                                       written sets one after the other
--     sets-16, can-first, can-second, united     rule 16: what its tests ask for; the rule by their result
--     first-fails, union_rule                    the rule by its two tests
--     can-rest_same, rest_at                     the test of rule 17
--     can-rest, rest-rule                        rule 17
use mathlib.Core.Path.{◌≡◌, refl, sym, ap, subst, ◌∙◌}
use mathlib.Core.Bool.{Bool, true, false}
use mathlib.Core.List.{List, [], ◌∷◌, ◌++◌, append-nil}
use Prim.Native.Nat.{ℕ, zero, suc, ◌+◌}
use Rattle.rules.specs.Assertion.{Members}
use Rattle.rules.specs.Context.{Context}
use Rattle.rules.specs.Condition.{test, ◌then◌}
use Rattle.rules.specs.Sets.{without}
use Rattle.rules.specs.Tests.{same}
use Rattle.rules.specs.Evidence.{row, Parts, child, members, done, ◌&◌, set16, set17}
use Rattle.rules.specs.Judge.{set_rule, judge}
use Rattle.ends.specs.Places.{end_at, SetAt}
use Rattle.implication.specs.Sides.{Condition, result_of}
use Rattle.std.specs.Prelude.{Err}
use Rattle.implication.specs.declared.Failure.TheVariants.{Fails}
use Rattle.goals.specs.Conditions.{condition_of}
use Rattle.goals.specs.Goals.{CanTry, StepOf, set-stands}
use Rattle.goals.specs.declared.Goal.TheVariants.{Set}
use Rattle.ends.proofs.Places.{at_place}
use Rattle.goals.proofs.Evidence.{Placed}
use Rattle.goals.proofs.Comes.{comes, two-children, then-passes, then-fails, SetComes, set-rule}
use Rattle.rule_laws.proofs.Trying.{parts-of, up-to, tested}
use Rattle.sets.specs.Rules.{CanThree, SameUnion}
use Rattle.sets.specs.Trees.{HasSet, stands-written, stands-without, CanSameSet, SameSet}
use Rattle.sets.specs.declared.item.View.TheVariants.{AsWritten}
use Rattle.sets.specs.declared.pile.Pile.TheVariants.{Without}
use Rattle.sets.specs.declared.pile.Pile.TheVariants as pile
use Rattle.set_laws.proofs.Sets.{has-set}
use Rattle.set_unions.specs.Unions.{CanRestUnion, RestAt}
use Rattle.set_unions.proofs.Goal.{here}

has-to : {file ends : List ℕ} {i j : ℕ} → j ≡ i → HasSet file ends i → HasSet file ends j
has-to {file} {ends} e x = subst (HasSet file ends) (sym e) x

-- n written sets one after the other
abbrev Sets : List ℕ → List ℕ → ℕ → ℕ → Type 0
Sets file ends zero at = Unit {0}
Sets file ends (suc n) at = HasSet file ends at × Sets file ends n (end_at ends at)

module _ (Γ : Context) (file ends : List ℕ) (d at end : ℕ) where
  carried-16 : (t : Parts (row set16).after) → Placed Γ file ends d t at end → Sets file ends 4 at
  carried-16 (members s & members s' & members t & members t' & l) (a, (b, (c, (e, x)))) =
      (has-set a, (has-set b, (has-set c, (has-set e, tt))))

  carried-17 : (t : Parts (row set17).after) → Placed Γ file ends d t at end → Sets file ends 3 at
  carried-17 (members s & members s' & members t & l) (a, (b, (c, x))) = (has-set a, (has-set b, (has-set c, tt)))

module _ {file ends : List ℕ} {Γ : Context} {p q at b c : ℕ} where
  module _ (can : CanTry file ends Γ 16 (Set p q) at) {e : ℕ} (eb : b ≡ end_at ends (at + 1)) (ec : c ≡ end_at ends b)
      (ee : e ≡ end_at ends c) where
    sets-16 : Sets file ends 4 (at + 1)
    sets-16 =
        let x = parts-of can set16 in
        carried-16 Γ file ends x.levels (at + 1) x.end x.parts x.parts-placed

    third : c ≡ end_at ends (end_at ends (at + 1))
    third = ec ∙ ap (end_at ends) eb

    pub can-first : CanThree file ends p (at + 1) c
    can-first = record {
      ends_of = can.can.ends_of;
      first-set = has-set (here can).left_at;
      second-set = sets-16.0;
      third-set = has-to third sets-16.1.1.0;
    }

    fourth : e ≡ end_at ends (end_at ends (end_at ends (at + 1)))
    fourth = ee ∙ ap (end_at ends) third

    pub can-second : CanThree file ends q b e
    can-second = record {
      ends_of = can.can.ends_of;
      first-set = has-set (here can).right-at;
      second-set = has-to eb sets-16.1.0;
      third-set = has-to fourth sets-16.1.1.1.0;
    }

    united : {r : Condition} →
        ((x y s s' t t' : Members) → SetAt file ends Γ x p → SetAt file ends Γ y q → SetAt file ends Γ s (at + 1) →
        SetAt file ends Γ s' b → SetAt file ends Γ t c → SetAt file ends Γ t' e →
        result_of r ≡ (test (same x (s ++ t)) then test (same y (s' ++ t')))) →
        StepOf file ends Γ (Set p q) at r
    unfolding set_rule judge
    united {r} h = set-rule can set16 go
      where
        go : SetComes Γ file ends p q at set16 r
        go x y (members s & members s' & members t & members t' & child k & child l & done) d end px qy
            (s-at, (s'-at, (t-at, (t'-at, (i, k-at, (m, l-at, last)))))) =
            comes _ r refl
            (h x y s s' t t' px qy s-at (at_place eb s'-at) (at_place third t-at) (at_place fourth t'-at))
            (two-children (set-stands s-at s'-at k-at)
            (up-to (set-stands t-at t'-at l-at) last))

    module _ {u : Bool} (first : SameUnion file ends p (at + 1) c u) where
      pub first-fails : u ≡ false → StepOf file ends Γ (Set p q) at (Err Fails)
      first-fails n = united λ x y s s' t t' px qy s-at s'-at t-at t'-at.
          sym (then-fails _ (sym (first.does x s t px s-at t-at)
          ∙ n))

      pub union_rule : u ≡ true → {v : Bool} → SameUnion file ends q b e v → {r : Condition} → r ≡ condition_of v →
          StepOf file ends Γ (Set p q) at r
      union_rule n second d = united λ x y s s' t t' px qy s-at s'-at t-at t'-at.
          tested d (second.does y s' t' qy s'-at t'-at)
          ∙ sym (then-passes _
          (sym (first.does x s t px s-at t-at) ∙ n))

  module _ (can : CanTry file ends Γ 17 (Set p q) at) (eb : b ≡ end_at ends (at + 1)) (ec : c ≡ end_at ends b) where
    sets-17 : Sets file ends 3 (at + 1)
    sets-17 =
        let x = parts-of can set17 in
        carried-17 Γ file ends x.levels (at + 1) x.end x.parts x.parts-placed

    third-17 : c ≡ end_at ends (end_at ends (at + 1))
    third-17 = ec ∙ ap (end_at ends) eb

    pub can-rest : CanRestUnion file ends p c b (at + 1)
    can-rest = record {
      ends_of = can.can.ends_of;
      set = has-set (here can).left_at;
      most = has-to third-17 sets-17.1.1.0;
      left_out = has-to eb sets-17.1.0;
      added = sets-17.0;
    }

    pub rest-rule : {u : Bool} → RestAt file ends p c b (at + 1) u → {r : Condition} → r ≡ condition_of u →
        StepOf file ends Γ (Set p q) at r
    unfolding set_rule judge
    rest-rule rest {r} e = set-rule can set17 go
      where
        go : SetComes Γ file ends p q at set17 r
        go x y (members s & members s' & members t & child k & child l & done) d end px qy
            (s-at, (s'-at, (t-at, (i, k-at, (m, l-at, last))))) =
            comes _ r refl
            (tested e (rest.is x t s' s px (at_place third-17 t-at)
            (at_place eb s'-at) s-at))
            (two-children (set-stands s-at s'-at k-at)
            (up-to (set-stands t-at qy l-at) last))

module _ {file ends : List ℕ} {p t leave s : ℕ} where
  pub can-rest_same : CanRestUnion file ends p t leave s →
      CanSameSet file ends p (Without t leave ∷ pile.Set s AsWritten ∷ [])
  can-rest_same can = record {
    ends_of = can.ends_of;
    set = can.set;
    piles_stand =
        record {
          trees = _ ∷ _ ∷ [];
          stand = (stands-without can.most.there can.left_out.there, (stands-written can.added.there, tt));
        };
  }

  pub rest_at : {r : Bool} → SameSet file ends p (Without t leave ∷ pile.Set s AsWritten ∷ []) r → RestAt file ends p t leave s r
  rest_at h = record {
    is = λ l x y z a b c d.
        h.does l (without x y ∷ z ∷ []) a (stands-without b c, (stands-written d, tt))
        ∙ ap (λ v. same l (without x y ++ v)) (append-nil z);
  }
