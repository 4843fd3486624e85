-- The operands of a written expression, by the kind of its first word (document 01, rule 19 of sets).
-- Assumes nothing.
--     TwoAt, OneAt, Split, split                an expression's operands at their places
--     can-one_same, can-two_same, first-known   what the code asks for
--     one_split, two-split, none-split          the written set compared with φ ⇒ each operand
--     can-split, apart-fails, split-rule        rule 19
use mathlib.Core.Path.{◌≡◌, refl, sym, ap, ◌∙◌}
use mathlib.Core.Bool.{Bool, true, false}
use mathlib.Core.List.{List, [], ◌∷◌}
use mathlib.Core.Option.{Option, none, some}
use Prim.Native.Nat.{ℕ, ◌+◌, ◌<◌}
use native.Mathlib.Omega.{arith}
use lib.ListN.{length}
use Rattle.laws.proofs.Bools.{clash}
use Rattle.language.specs.Syntax.{Sort, Boolean, Expr, constant, scalar, operation, select, compare, truth, and, or}
use Rattle.language.specs.Syntax.{neg, array, zeros, update}
use Rattle.rules.specs.Assertion.{Members, member, one}
use Rattle.rules.specs.Context.{Context}
use Rattle.rules.specs.Condition.{test, on_one, on_some}
use Rattle.rules.specs.Evidence.{set19}
use Rattle.rules.specs.Judge.{misfit, childless, set_rule}
use Rattle.rules.specs.Sets.{operands}
use Rattle.rules.specs.Tests.{same}
use Rattle.layout.specs.Bytes.{kind_at}
use Rattle.layout.specs.Nodes.{expression_node, head_of, parts_of, kind_of}
use Rattle.ends.specs.Ends.{EndsOf}
use Rattle.ends.specs.Places.{end_at, WrittenAt, NodesAt, PartKnown}
use Rattle.implication.specs.Sides.{Condition}
use Rattle.std.specs.Prelude.{Err}
use Rattle.implication.specs.declared.Failure.TheVariants.{Fails}
use Rattle.goals.specs.Conditions.{condition_of}
use Rattle.goals.specs.Goals.{CanTry, StepOf}
use Rattle.goals.specs.declared.Goal.TheVariants.{Set}
use Rattle.ends.proofs.Places.{node_head, parts_at, at_place, node_inside, node_known}
use Rattle.rule_laws.proofs.Trying.{tested}
use Rattle.sets.specs.Trees.{stands_one, CanSameSet, SameSet}
use Rattle.sets.specs.declared.pile.Pile.TheVariants.{One}
use Rattle.sets.specs.Piles.{count_at}
use Rattle.set_laws.proofs.Sets.{has-set, is_one, not-one}
use Rattle.set_rules.specs.Conditions.{has_two, CanOperands, OperandsAt}
use Rattle.set_unions.proofs.Goal.{here, right-one, leaf-rule}

module _ (file ends : List ℕ) {k : Sort} (d : Expr k) (at : ℕ) where
  pub record TwoAt : Type 0 where
    pub first-sort : Sort
    pub second-sort : Sort
    pub first : Expr first-sort
    pub second : Expr second-sort
    pub is : (φ : Expr Boolean) → operands φ d ≡ some (member φ first ∷ (member φ second ∷ []))
    pub first-at : WrittenAt file ends first (at + 1)
    pub second_at : WrittenAt file ends second (end_at ends (at + 1))

  pub record OneAt : Type 0 where
    pub only : Expr Boolean
    pub is : (φ : Expr Boolean) → operands φ d ≡ some (member φ only ∷ [])
    pub only_at : WrittenAt file ends only (at + 1)

  pub data Split : Type 0 where
    split-two : has_two (kind_at file at) ≡ true → (kind_at file at ≡ 12 → ⊥) → TwoAt → Split
    split_one : kind_at file at ≡ 12 → OneAt → Split
    split-none : has_two (kind_at file at) ≡ false → (kind_at file at ≡ 12 → ⊥) →
        ((φ : Expr Boolean) → operands φ d ≡ none) → Split

-- by the kind of its first word, and its parts at their places up to p
module _ (file ends : List ℕ) (at p : ℕ) where
  -- an expression with two operands, or none
  two-kind : {i j k : Sort} {d : Expr k} {a : Expr i} {b : Expr j} {n : ℕ} → kind_at file at ≡ n → has_two n ≡ true →
      (n ≡ 12 → ⊥) → ((φ : Expr Boolean) → operands φ d ≡ some (member φ a ∷ (member φ b ∷ []))) →
      NodesAt file ends (expression_node a ∷ expression_node b ∷ []) (at + 1) p → Split file ends d at
  two-kind {a = a} {b = b} e h g t y =
      split-two (ap has_two e ∙ h) (λ i. g (sym e ∙ i))
      (record { first-sort = _; second-sort = _; first = a; second = b; is = t; first-at = y.0; second_at = y.1.0 })

  none-kind : {k : Sort} {d : Expr k} {n : ℕ} → kind_at file at ≡ n → has_two n ≡ false → (n ≡ 12 → ⊥) →
      ((φ : Expr Boolean) → operands φ d ≡ none) → Split file ends d at
  none-kind e h g t = split-none (ap has_two e ∙ h) (λ i. g (sym e ∙ i)) t

  split_by : {k : Sort} (d : Expr k) → kind_at file at ≡ kind_of (head_of (expression_node d)) →
      NodesAt file ends (parts_of (expression_node d)) (at + 1) p → Split file ends d at
  unfolding has_two
  split_by (constant z) e y = none-kind e refl (λ i. omega arith) λ φ. refl
  split_by (scalar x) e y = none-kind e refl (λ i. omega arith) λ φ. refl
  split_by (operation r a b) e y = two-kind e refl (λ i. omega arith) (λ φ. refl) y
  split_by (select h i) e y = none-kind e refl (λ i. omega arith) λ φ. refl
  split_by (compare r a b) e y = two-kind e refl (λ i. omega arith) (λ φ. refl) y
  split_by (truth t) e y = none-kind e refl (λ i. omega arith) λ φ. refl
  split_by (and b c) e y = two-kind e refl (λ i. omega arith) (λ φ. refl) y
  split_by (or b c) e y = two-kind e refl (λ i. omega arith) (λ φ. refl) y
  split_by (neg b) e y = split_one e (record { only = b; is = λ φ. refl; only_at = y.0 })
  split_by (array a) e y = none-kind e refl (λ i. omega arith) λ φ. refl
  split_by zeros e y = none-kind e refl (λ i. omega arith) λ φ. refl
  split_by (update h i a) e y = none-kind e refl (λ i. omega arith) λ φ. refl

split : {file ends : List ℕ} {k : Sort} {d : Expr k} {at : ℕ} → EndsOf file ends → WrittenAt file ends d at →
    Split file ends d at
split {d = d} o x = split_by _ _ _ _ d (node_head x).kind (parts_at o x)

-- by the kind
module _ {file ends : List ℕ} {k : Sort} {d : Expr k} {at : ℕ} where
  by_one : Split file ends d at → kind_at file at ≡ 12 → OneAt file ends d at
  by_one (split-two h g t) e = absurd (g e)
  by_one (split_one h t) e = t
  by_one (split-none h g t) e = absurd (g e)

  by_two : Split file ends d at → (kind_at file at ≡ 12 → ⊥) → has_two (kind_at file at) ≡ true → TwoAt file ends d at
  by_two (split-two h g t) f e = t
  by_two (split_one h t) f e = absurd (f h)
  by_two (split-none h g t) f e = clash e h

  by-none : Split file ends d at → (kind_at file at ≡ 12 → ⊥) → has_two (kind_at file at) ≡ false → (φ : Expr Boolean) →
      operands φ d ≡ none
  by-none (split-two h g t) f e φ = clash h e
  by-none (split_one h t) f e φ = absurd (f h)
  by-none (split-none h g t) f e φ = t φ

module _ {file ends : List ℕ} {p f e : ℕ} (can : CanOperands file ends p f e) where
  pub whole_in : e < length file
  whole_in =
      let i = node_inside can.whole-at in
      let s = i.start in
      let w = i.within in
      omega arith

  pub can-one_same : kind_at file e ≡ 12 → CanSameSet file ends p (One f (e + 1) ∷ [])
  can-one_same h =
      let t = by_one (split can.ends_of can.whole-at) h in
      record {
        ends_of = can.ends_of;
        set = can.set;
        piles_stand =
            record { trees = one can.φ t.only ∷ []; stand = (stands_one can.antecedent-at t.only_at, tt) };
      }

  module _ (g : kind_at file e ≡ 12 → ⊥) (h : has_two (kind_at file e) ≡ true) where
    both_at : TwoAt file ends can.whole e
    both_at = by_two (split can.ends_of can.whole-at) g h

    pub first-known : PartKnown file ends (e + 1)
    first-known = node_known can.ends_of both_at.first-at

    pub can-two_same : {next : ℕ} → next ≡ end_at ends (e + 1) → CanSameSet file ends p (One f (e + 1) ∷ One f next ∷ [])
    can-two_same i = record {
      ends_of = can.ends_of;
      set = can.set;
      piles_stand =
          record {
            trees = one can.φ both_at.first ∷ one can.φ both_at.second ∷ [];
            stand = (
              stands_one can.antecedent-at both_at.first-at,
              (stands_one can.antecedent-at (at_place i both_at.second_at), tt),
            );
          };
    }

module _ {file ends : List ℕ} {p f e : ℕ} (o : EndsOf file ends) where
  pub one_split : kind_at file e ≡ 12 → {r : Bool} → SameSet file ends p (One f (e + 1) ∷ []) r → OperandsAt file ends p f e r
  unfolding on_some
  one_split h same-as = record {
    is = λ Γ l φ d a b c.
        let t = by_one (split o c) h in
        same-as.does l (one φ t.only ∷ []) a (stands_one b t.only_at, tt)
        ∙ ap (λ m. on_some m false (λ x. same l x)) (sym (t.is φ));
  }

  module _ (g : kind_at file e ≡ 12 → ⊥) where
    pub none-split : {t : Bool} → t ≡ has_two (kind_at file e) → t ≡ false → OperandsAt file ends p f e false
    unfolding on_some
    none-split i h = record {
      is = λ Γ l φ d a b c. ap (λ m. on_some m false (λ x. same l x)) (sym (by-none (split o c) g (sym i ∙ h) φ));
    }

    pub two-split : has_two (kind_at file e) ≡ true → {next : ℕ} → next ≡ end_at ends (e + 1) → {r : Bool} →
        SameSet file ends p (One f (e + 1) ∷ One f next ∷ []) r → OperandsAt file ends p f e r
    unfolding on_some
    two-split h i same-as = record {
      is = λ Γ l φ d a b c.
          let t = by_two (split o c) g h in
          same-as.does l (one φ t.first ∷ one φ t.second ∷ []) a
          (stands_one b t.first-at, (stands_one b (at_place i t.second_at), tt))
          ∙ ap (λ m. on_some m false (λ x. same l x)) (sym (t.is φ));
    }

-- operands that are not there are a condition that fails
some_result : (m : Option Members) (l : Members) →
    on_some m misfit (λ r. childless (test (same l r))) ≡ childless (test (on_some m false (λ r. same l r)))
unfolding on_some test
some_result none l = refl
some_result (some r) l = refl

module _ {file ends : List ℕ} {Γ : Context} {p q at : ℕ} (can : CanTry file ends Γ 19 (Set p q) at) {k : ℕ}
    (n : k ≡ count_at file q) where
  pub apart-fails : (k ≡ 1 → ⊥) → StepOf file ends Γ (Set p q) at (Err Fails)
  unfolding set_rule
  apart-fails g = leaf-rule can set19 refl λ x y a b. not-one b misfit _ (λ e. g (n ∙ e))

  module _ (g : k ≡ 1) {e : ℕ} (i : e ≡ end_at ends (q + 1)) where
    pub can-split : CanOperands file ends p (q + 1) e
    can-split =
        let z = right-one can n g in
        record {
          ends_of = can.can.ends_of;
          size = can.can.size;
          set = has-set (here can).left_at;
          φ = z.only.antecedent;
          antecedent-at = z.only_at.antecedent-at;
          sort = z.only.sort;
          whole = z.only.consequent;
          whole-at = at_place i z.only_at.consequent-at;
        }

    pub split-rule : {b : Bool} → OperandsAt file ends p (q + 1) e b → {c : Condition} → c ≡ condition_of b →
        StepOf file ends Γ (Set p q) at c
    unfolding set_rule on_one
    split-rule splits d = leaf-rule can set19 refl λ x y a b.
        let z = is_one b can.can.ends_of (sym n ∙ g) in
        ap (set_rule Γ set19 x) z.is
        ∙ some_result (operands z.only.antecedent z.only.consequent) x
        ∙ ap childless (sym (tested d (splits.is Γ x _ z.only.consequent a z.only_at.antecedent-at
        (at_place i z.only_at.consequent-at))))
