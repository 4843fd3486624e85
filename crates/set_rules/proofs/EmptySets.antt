-- Rules 14 and 15 of sets: from the empty set.
-- Assumes nothing.
--     MembersStand, ComesAt                    members at some places, and what they come to
--     Remains, remains_start .. remains_end    members passed one by one
--     can-try_each, full-fails, each-rule      rule 14
--     one-starts, some-fails, many-fails, closed_rule
--                                              rule 15
use mathlib.Core.Path.{◌≡◌, refl, sym, ap, ap₂, subst, ◌∙◌}
use mathlib.Core.Bool.{Bool, false}
use mathlib.Core.List.{List, [], ◌∷◌}
use Prim.Native.Nat.{ℕ, ◌+◌, ◌≤◌}
use native.Mathlib.Omega.{arith}
use lib.ListN.{length}
use Rattle.language.specs.Syntax.{truth}
use Rattle.rules.specs.Assertion.{Member, Members}
use Rattle.rules.specs.Context.{Context}
use Rattle.rules.specs.Condition.{Result, passes, ◌then◌, each_implies_false, on_empty, on_one}
use Rattle.rules.specs.Evidence.{set14, set15}
use Rattle.rules.specs.Judge.{misfit, childless, set_rule}
use Rattle.layout.specs.Nodes.{expression_node}
use Rattle.ends.specs.Ends.{EndsOf}
use Rattle.scan.specs.Place.{StartsAt, ClosedAt}
use Rattle.scan.proofs.Places.{node_starts}
use Rattle.ends.specs.Places.{end_at}
use Rattle.implication.specs.Sides.{Condition, result_of, Implied}
use Rattle.std.specs.Prelude.{Ok, Err}
use Rattle.implication.specs.declared.Failure.{Failure}
use Rattle.implication.specs.declared.Failure.TheVariants.{Fails, TooLarge}
use Rattle.implication.specs.declared.Side.TheVariants.{One, False}
use Rattle.goals.specs.Conditions.{condition_of}
use Rattle.goals.specs.Goals.{CanTry, StepOf}
use Rattle.goals.specs.declared.Goal.TheVariants.{Set}
use Rattle.ends.proofs.Places.{node_known, at_place}
use Rattle.rule_laws.proofs.Trying.{tested}
use Rattle.sets.specs.Items.{past_member}
use Rattle.sets.specs.Standing.{MembersAt}
use Rattle.sets.specs.Members.{member_places}
use Rattle.sets.specs.Piles.{count_at}
use Rattle.sets.specs.Trees.{MemberWritten, MembersWritten}
use Rattle.sets.proofs.Trees.{set-count, set-written, members-place}
use Rattle.set_laws.proofs.Sets.{is-empty, not-empty, is_one, not-one}
use Rattle.set_rules.specs.Conditions.{CanTryMember, CanTryEach, EachAt}
use Rattle.set_unions.proofs.Goal.{here, right-one, leaf-rule}

-- members at some places, in order
abbrev pub MembersStand : List ℕ → List ℕ → Members → List ℕ → Type 0
MembersStand file ends [] [] = Unit {0}
MembersStand file ends [] (i ∷ places) = ⊥
MembersStand file ends (m ∷ l) [] = ⊥
MembersStand file ends (m ∷ l) (i ∷ places) = MemberWritten file ends m i × MembersStand file ends l places

module _ (file ends : List ℕ) where
  stand_all : (l : Members) (at : ℕ) → MembersWritten file ends l at → MembersStand file ends l (member_places ends (length l) at)
  stand_all [] at w = tt
  stand_all (m ∷ l) at w = (w.0, stand_all l (past_member ends at) w.1)

  stand-counted : (l : Members) (n at : ℕ) → length l ≡ n → MembersWritten file ends l at →
      MembersStand file ends l (member_places ends n at)
  stand-counted l n at e w = subst (λ n. MembersStand file ends l (member_places ends n at)) e (stand_all l at w)

  -- what the members at some places come to
  abbrev pub ComesAt : ℕ → List ℕ → Condition → Type 0
  ComesAt limit places r =
      (l : Members) → MembersStand file ends l places → (Γ : Context) → Γ.limits.comparisons ≡ limit →
      result_of r ≡ each_implies_false Γ l

  -- of the k members at `from` those at some places are left, and what they come to all come to
  pub record Remains (limit k from : ℕ) (places : List ℕ) : Type 0 where
    pub members : Members
    pub stand : MembersStand file ends members places
    pub rest : (r : Condition) → ComesAt limit places r → EachAt file ends limit k from r

-- a condition that does not pass is the result of those that follow too
fails-stay : (f : Failure) (x : Result) → result_of (Err f) ≡ (result_of (Err f) then x)
unfolding ◌then◌
fails-stay Fails x = refl
fails-stay TooLarge x = refl

none_left : (file ends : List ℕ) (l : Members) → MembersStand file ends l [] → (Γ : Context) → passes ≡ each_implies_false Γ l
unfolding each_implies_false
none_left file ends [] s Γ = refl
none_left file ends (m ∷ l) s Γ = absurd s

-- the first of members at some places
module _ (file ends : List ℕ) (limit i : ℕ) (places : List ℕ) where
  others : (l : Members) → MembersStand file ends l (i ∷ places) → (o : Members) × MembersStand file ends o places
  others [] s = absurd s
  others (m ∷ l) s = (l, s.1)

  can-first : (l : Members) → MembersStand file ends l (i ∷ places) → EndsOf file ends → length file ≤ 8192 → limit ≤ 16 →
      CanTryMember file ends limit i
  can-first [] s o h f = absurd s
  can-first (m ∷ l) s o h f =
      let a = s.0.antecedent-at in
      record {
        listed = (node_known o a).listed;
        can =
            record {
              φ = m.antecedent;
              ψ = truth false;
              levels = a.levels;
              low = a.low;
              left_stands = a.stands;
              right_stands = refl;
              size = h;
              few = f;
            };
      }

  module _ {c : Condition} (imp : Implied file (One i (end_at ends i)) False limit c) where
    -- the result of members whose first is at hand
    each_first : (m : Member) (l : Members) → MemberWritten file ends m i → (Γ : Context) → Γ.limits.comparisons ≡ limit →
        {v : Result} → v ≡ (result_of c then each_implies_false Γ l) → v ≡ each_implies_false Γ (m ∷ l)
    unfolding each_implies_false
    each_first m l w Γ g d =
        let a = w.antecedent-at in
        d ∙ ap (λ u. u then each_implies_false Γ l) (imp.is m.antecedent (truth false) a.levels a.levels a.stands refl Γ g)

    first_stops : ((u : Result) → result_of c ≡ (result_of c then u)) → ComesAt file ends limit (i ∷ places) c
    first_stops stay [] s Γ g = absurd s
    first_stops stay (m ∷ l) s Γ g = each_first m l s.0 Γ g (stay (each_implies_false Γ l))

    first_passes : ((u : Result) → u ≡ (result_of c then u)) → (r : Condition) → ComesAt file ends limit places r →
        ComesAt file ends limit (i ∷ places) r
    first_passes pass r q [] s Γ g = absurd s
    first_passes pass r q (m ∷ l) s Γ g = each_first m l s.0 Γ g (q l s.1 Γ g ∙ pass (each_implies_false Γ l))

module _ {file ends : List ℕ} {limit k from : ℕ} where
  pub remains_start : CanTryEach file ends limit k from → Remains file ends limit k from (member_places ends k from)
  remains_start can = record {
    members = can.members;
    stand = stand-counted file ends can.members k from can.count can.members-at;
    rest = λ r h. record { is = λ l e w Γ g. h l (stand-counted file ends l k from e w) Γ g };
  }

  pub members_at : CanTryEach file ends limit k from → MembersAt file ends k from
  members_at can = subst (λ n. MembersAt file ends n from) can.count (members-place file ends can.members from can.members-at)

  -- the first of those that are left
  module _ {i : ℕ} {places : List ℕ} (x : Remains file ends limit k from (i ∷ places)) where
    pub can-try_first : CanTryEach file ends limit k from → CanTryMember file ends limit i
    can-try_first can = can-first file ends limit i places x.members x.stand can.ends_of can.size can.few

    pub remains_stop : {f : Failure} → Implied file (One i (end_at ends i)) False limit (Err f) → EachAt file ends limit k from (Err f)
    remains_stop {f} imp = x.rest (Err f) (first_stops file ends limit i places imp (fails-stay f))

    pub remains_on : {u : Unit {0}} → Implied file (One i (end_at ends i)) False limit (Ok u) → Remains file ends limit k from places
    unfolding ◌then◌
    remains_on {u} imp =
        let o = others file ends limit i places x.members x.stand in
        record { members = o.0; stand = o.1; rest = λ r q. x.rest r (first_passes file ends limit i places imp (λ v. refl) r q) }

  -- by what `?` returns
  pub remains_exit : {r : Condition} {f : Failure} → (y : Failure) × (r ≡ Err y) × (y ≡ f) → EachAt file ends limit k from (Err f) →
      EachAt file ends limit k from r
  remains_exit x e = subst (EachAt file ends limit k from) (sym (x.1 ∙ ap Err x.2)) e

  pub remains_end : Remains file ends limit k from [] → EachAt file ends limit k from (Ok tt)
  remains_end x = x.rest (Ok tt) (λ l s Γ g. none_left file ends l s Γ)

module _ {file ends : List ℕ} {Γ : Context} {p q at : ℕ} where
  module _ (can : CanTry file ends Γ 14 (Set p q) at) where
    pub can-try_each : {limit k : ℕ} → Γ.limits.comparisons ≡ limit → k ≡ count_at file q → CanTryEach file ends limit k (q + 1)
    can-try_each g n = record {
      ends_of = can.can.ends_of;
      size = can.can.size;
      few = omega (arith, can.can.few);
      members = (here can).right;
      count = sym (n ∙ set-count (here can).right-at);
      members-at = set-written can.can.ends_of (here can).right-at;
    }

    module _ {j : ℕ} (m : j ≡ count_at file p) where
      pub full-fails : (j ≡ 0 → ⊥) → StepOf file ends Γ (Set p q) at (Err Fails)
      unfolding set_rule
      full-fails h = leaf-rule can set14 refl λ x y a b. not-empty a misfit _ (λ e. h (m ∙ e))

      pub each-rule : j ≡ 0 → {limit k : ℕ} → Γ.limits.comparisons ≡ limit → k ≡ count_at file q → {c : Condition} →
          EachAt file ends limit k (q + 1) c → StepOf file ends Γ (Set p q) at c
      unfolding set_rule on_empty
      each-rule h g n each = leaf-rule can set14 refl λ x y a b.
          ap (λ z. set_rule Γ set14 z y) (is-empty a (sym m ∙ h))
          ∙ ap childless (sym (each.is y (sym (n ∙ set-count b)) (set-written can.can.ends_of b) Γ g))

  module _ (can : CanTry file ends Γ 15 (Set p q) at) {j : ℕ} (m : j ≡ count_at file p) where
    pub some-fails : (j ≡ 0 → ⊥) → StepOf file ends Γ (Set p q) at (Err Fails)
    unfolding set_rule
    some-fails h = leaf-rule can set15 refl λ x y a b. not-empty a misfit _ (λ e. h (m ∙ e))

    module _ (h : j ≡ 0) {k : ℕ} (n : k ≡ count_at file q) where
      pub many-fails : (k ≡ 1 → ⊥) → StepOf file ends Γ (Set p q) at (Err Fails)
      unfolding set_rule on_empty
      many-fails g = leaf-rule can set15 refl λ x y a b.
          ap (λ z. set_rule Γ set15 z y) (is-empty a (sym m ∙ h)) ∙ not-one b misfit _ (λ e. g (n ∙ e))

      module _ (g : k ≡ 1) {e : ℕ} (i : e ≡ end_at ends (q + 1)) where
        pub one-starts : StartsAt file ends e
        one-starts =
            let z = right-one can n g in
            let t = at_place i z.only_at.consequent-at in
            node_starts can.can.ends_of (expression_node z.only.consequent) t.levels e (end_at ends e) t.stands

        pub closed_rule : {b : Bool} → ClosedAt file e b → {c : Condition} → c ≡ condition_of b →
            StepOf file ends Γ (Set p q) at c
        unfolding set_rule on_empty on_one
        closed_rule closed d = leaf-rule can set15 refl λ x y a b.
            let z = is_one b can.can.ends_of (sym n ∙ g) in
            let t = at_place i z.only_at.consequent-at in
            ap₂ (set_rule Γ set15) (is-empty a (sym m ∙ h)) z.is
            ∙ ap childless (sym (tested d (closed.expression z.only.consequent t.levels (end_at ends e) t.stands)))
