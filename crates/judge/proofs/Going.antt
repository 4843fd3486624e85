-- The children of an evidence word whose conditions pass, judged one after the other.
-- Assumes nothing.
--     level-due                                            evidence takes a level
--     can-step, can-go                                     the word: what its conditions ask for; its children, where they pass
--     judged-failed, judged-passed                         its verdict by the result of its conditions
--     Going                                                the children from number k on, in the code's loop
--     row-there, word-row, children-left                   the row of the word's rule: there is one; as many items are left
--     going_start, going_step, going_refused, going_end    at the start; past a child; a child refused; past the last
--     child-asked, child-can                               what the goal of a child and judging it ask for
--     next_fits                                            a child has a small number
--     count_fits                                           the sum of counts does not overflow
use mathlib.Core.Path.{◌≡◌, refl, sym, ap, subst, ◌∙◌}
use mathlib.Core.List.{List, [], ◌∷◌}
use Prim.Native.Nat.{ℕ, zero, suc, ◌+◌, ◌-◌, ◌<◌, ◌≤◌}
use native.Mathlib.Omega.{arith}
use mathlib.Core.Option.{some}
use lib.ListN.{length, get_or, drop, length-map}
use Rattle.rules.specs.Context.{Context}
use Rattle.rules.specs.Evidence.{Item, by}
use Rattle.rules.specs.Judge.{Verdict, accepted, refused, one_more, ◌also◌, step, judge_word, judge}
use Rattle.layout.specs.Bytes.{payload_at}
use Rattle.layout.specs.EvidenceWords.{FitsTree}
use Rattle.words.specs.Rows.{item_meant, items_meant, row_meant, row_of}
use Rattle.words.specs.declared.rows.Item as code
use Rattle.std.specs.Prelude as std
use Rattle.std.specs.Prelude.{Ok, Err}
use Rattle.std.proofs.Common.{Bor}
use Rattle.implication.specs.Sides.{Condition, result_of}
use Rattle.implication.specs.declared.Failure.{Failure}
use Rattle.implication.specs.declared.Failure.TheVariants.{Fails, TooLarge}
use Rattle.context.specs.declared.Refusal.{Refusal}
use Rattle.goals.specs.declared.Goal.{Goal}
use Rattle.goals.specs.declared.Judged.{Judged}
use Rattle.goals.specs.Children.{children_at, child_at, judgement_of, carried_off, past_carried}
use Rattle.goals.specs.Goals.{TreeGoal, verdict, verdicts, tree_step, tree_items, GoalStands, GoalsStand}
use Rattle.goals.specs.Goals.{flow, set, pre, flow-stands, set-stands, pre-stands, CanStep, StepOf, Answer, judged_of, CanJudge, JudgedOf}
use Rattle.goals.proofs.Children.{row_is}
use Rattle.judge.specs.Row.{PastCarried}
use Rattle.judge.specs.declared.row.First.{First}
use Rattle.judge.specs.Refusals.{refusal_of}
use Rattle.judge.specs.Going.{CanChild, CanGo, Goes}
use Rattle.judge.proofs.Asked.{children-few}
use Rattle.judge.proofs.Counts.{goal-counts, goal-inside, goal-place, goal-low, goal-level}

-- the verdict of a goal by what its rule comes to
word-is : {Γ : Context} {file ends : List ℕ} {goal : Goal} {g : TreeGoal} {d at end : ℕ} →
    GoalStands Γ file ends goal g (suc d) at end → verdict Γ g ≡ judge_word at (tree_step Γ g)
unfolding judge FitsTree
word-is {Γ} (flow-stands {k = by r i t} {p = p} {q = q} {c = c} x y z s) =
    ap (λ n. judge_word n (tree_step Γ (flow (by r i t) p c q))) s.stands.fit.0
word-is {Γ} (set-stands {k = by r i t} {p = p} {q = q} x y s) =
    ap (λ n. judge_word n (tree_step Γ (set (by r i t) p q))) s.stands.fit.0
word-is {Γ} (pre-stands {k = by r i t} {φ = φ} {φ' = φ'} {c = c} x y z s) =
    ap (λ n. judge_word n (tree_step Γ (pre (by r i t) φ c φ'))) s.stands.fit.0

abbrev answer : ℕ → ℕ → Answer
answer n to = Ok (record { count = n; end = to })

module _ {file ends : List ℕ} {Γ : Context} {goal : Goal} {at left : ℕ} (p : CanJudge file ends Γ goal at left) where
  pub level-due : 1 ≤ left
  level-due = goal-level Γ file ends p.goal-stands

  less_one : left ≡ suc (left - 1)
  less_one = omega (arith, level-due)

  lowered : {g : TreeGoal} {end : ℕ} → GoalStands Γ file ends goal g left at end →
      GoalStands Γ file ends goal g (suc (left - 1)) at end
  lowered {g} {end} s = subst (λ d. GoalStands Γ file ends goal g d at end) less_one s

  pub can-step : CanStep file ends Γ goal at
  can-step = record {
    ends_of = p.ends_of;
    procedures = p.procedures;
    size = p.size;
    few = p.few;
    tree = p.tree;
    levels = left - 1;
    low = omega (arith, p.low);
    end = p.end;
    goal-stands = lowered p.goal-stands;
  }

  module _ {r : Condition} (s : StepOf file ends Γ goal at r) where
    refused-by : (n : ℕ) → ((v : Verdict) → judge_word at (step (result_of r) v) ≡ refused n at) →
        JudgedOf file ends Γ goal at left (Err (record { number = n; place = at }))
    refused-by n h = record {
      judged = λ g end x.
          let c = s.comes g (left - 1) end (omega (arith, p.low)) (lowered x) in
          sym (ap (λ v. judged_of v end) (word-is (lowered x) ∙ ap (judge_word at) c.is ∙ h c.children));
    }

    pub judged-failed : (f : Failure) → r ≡ Err f → JudgedOf file ends Γ goal at left (Err (refusal_of f at))
    unfolding judge_word
    judged-failed Fails e = refused-by 8 λ v. ap (λ x. judge_word at (step (result_of x) v)) e
    judged-failed TooLarge e = refused-by 9 λ v. ap (λ x. judge_word at (step (result_of x) v)) e

    pub can-go : r ≡ Ok tt → CanGo file ends Γ goal at (left - 1)
    can-go e = record {
      can = subst (λ n. CanJudge file ends Γ goal at n) less_one p;
      passed = subst (λ x. StepOf file ends Γ goal at x) e s;
    }

  pub judged-passed : {x : Answer} → Goes file ends Γ goal at (left - 1) x → JudgedOf file ends Γ goal at left x
  judged-passed {x} h = subst (λ n. JudgedOf file ends Γ goal at n x) (sym less_one) h

one_more_lem : (v : Verdict) → one_more v ≡ accepted 1 also v
unfolding one_more ◌also◌
one_more_lem (accepted n) = ap accepted (omega arith)
one_more_lem (refused k i) = refl

-- lists by a place in them
suc_one : (k : ℕ) → suc k + 1 ≡ suc (k + 1)
suc_one k = omega arith

drop-one : {A : Type 0} (l : List A) (k : ℕ) (d : A) → k < length l → drop k l ≡ get_or l k d ∷ drop (k + 1) l
drop-one [] k d h = absurd (omega arith)
drop-one (x ∷ l) zero d h = refl
drop-one (x ∷ l) (suc k) d h =
    drop-one l k d (omega arith) ∙ ap (λ n. get_or l k d ∷ drop n (x ∷ l)) (sym (suc_one k))

drop_all : {A : Type 0} (l : List A) (k : ℕ) → k ≡ length l → drop k l ≡ []
drop_all [] zero e = refl
drop_all [] (suc k) e = absurd (omega arith)
drop_all (x ∷ l) zero e = absurd (omega arith)
drop_all (x ∷ l) (suc k) e = drop_all l k (omega arith)

module _ (file ends : List ℕ) (Γ : Context) (goal : Goal) (at left : ℕ) where
  abbrev goals : List Goal
  goals = children_at file ends goal (payload_at file at) at

  -- of a goal's tree: the trees of the children from number k on, and the verdict with them
  pub record GoingOf (g : TreeGoal) (end k next count : ℕ) : Type 0 where
    pub trees : List TreeGoal
    pub stand : GoalsStand Γ file ends (drop k goals) trees left next end
    pub judged : verdict Γ g ≡ accepted count also verdicts Γ trees
    pub few : count ≤ suc next

  pub record Going (next count k : ℕ) : Type 0 where
    pub goes : (g : TreeGoal) (end : ℕ) → GoalStands Γ file ends goal g (suc left) at end → GoingOf g end k next count

pub also_sum : (m n : ℕ) (v : Verdict) → accepted m also (accepted n also v) ≡ accepted (m + n) also v
unfolding ◌also◌
also_sum m n (accepted k) = ap accepted (omega arith)
also_sum m n (refused k i) = refl

also_last : (m : ℕ) → accepted m also accepted 0 ≡ accepted m
unfolding ◌also◌
also_last m = ap accepted (omega arith)

also_stop : (m k i : ℕ) (v : Verdict) → accepted m also (refused k i also v) ≡ refused k i
unfolding ◌also◌
also_stop m k i v = refl

pub accepted-is : (v : Verdict) {j : Judged} {end : ℕ} → ◌≡◌ {A = Answer} (Ok j) (judged_of v end) →
    (v ≡ accepted j.count) × (j.end ≡ end)
accepted-is (accepted n) e = let i : ◌≡◌ {A = Judged} _ _ = cc e in (ap accepted (sym (ap (λ x. x.count) i)), ap (λ x. x.end) i)
accepted-is (refused k i) e = absurd (let u : ◌≡◌ {A = ℕ} 0 1 = cc in omega (arith, u))

-- a verdict that was written as a refusal stays one
pub refused-is : (v w : Verdict) (m end last : ℕ) {x : Refusal} → ◌≡◌ {A = Answer} (Err x) (judged_of v end) →
    ◌≡◌ {A = Answer} (Err x) (judged_of (accepted m also (v also w)) last)
refused-is (accepted n) w m end last h = absurd (let u : ◌≡◌ {A = ℕ} 0 1 = cc in omega (arith, u))
refused-is (refused k i) w m end last h = h ∙ ap (λ v. judged_of v last) (sym (also_stop m k i w))

-- a row that there is
pub row-there : (o : std.Option (Bor (List code.Item))) {l : List Item} → row_meant o ≡ some l → std.IsSome o
row-there std.None h = absurd (let z : ◌≡◌ {A = ℕ} 0 1 = cc in omega (arith, z))
row-there (std.Some r) h = refl

same-row : {a b : List Item} → some a ≡ some b → a ≡ b
same-row h = cc

module _ {file ends : List ℕ} {Γ : Context} {goal : Goal} {at left : ℕ} (p : CanGo file ends Γ goal at left) where
  -- the row of the word's rule
  pub word-row : {rule : ℕ} (o : std.Option (Bor (List code.Item))) → rule ≡ payload_at file at →
      row_meant o ≡ row_of (judgement_of goal) rule → row_meant o ≡ some (tree_items p.can.tree)
  word-row o e f = f ∙ ap (row_of (judgement_of goal)) e ∙ (row_is p.can.goal-stands).row

  -- as many items are left as there are children
  pub children-left : {row : List code.Item} {first : First} {rule : ℕ} → rule ≡ payload_at file at →
      some (items_meant row) ≡ row_of (judgement_of goal) rule → PastCarried ends row (at + 1) first →
      length first.rest.now ≡ length (goals file ends Γ goal at left)
  children-left {row} {first} e f past =
      let is : items_meant row ≡ tree_items p.can.tree = same-row (f ∙ ap (row_of (judgement_of goal)) e ∙ (row_is p.can.goal-stands).row) in
      sym (length-map first.rest.now item_meant) ∙ ap length (past.past.1 ∙ ap carried_off is) ∙ sym (row_is p.can.goal-stands).count

  pub going_start : {row : List code.Item} {first : First} {rule : ℕ} → rule ≡ payload_at file at →
      some (items_meant row) ≡ row_of (judgement_of goal) rule → PastCarried ends row (at + 1) first →
      Going file ends Γ goal at left first.at 1 0
  unfolding judge_word
  going_start {row} {first} e f past = record {
    goes = λ g end s.
        let is : items_meant row ≡ tree_items g = same-row (f ∙ ap (row_of (judgement_of goal)) e ∙ (row_is s).row) in
        let c = p.passed.comes g left end (omega (arith, p.can.low)) s in
        let k = c.stand refl in
        record {
          trees = k.trees;
          stand = subst (λ i. GoalsStand Γ file ends (goals file ends Γ goal at left) k.trees left i end)
              (sym (past.past.0 ∙ ap (λ l. past_carried ends l (at + 1)) is)) k.stand;
          judged = word-is s ∙ ap (judge_word at) c.is ∙ one_more_lem c.children
              ∙ ap (λ v. accepted 1 also v) k.judged;
          few = omega arith;
        };
  }

  module _ {next count k rule : ℕ} (e : rule ≡ payload_at file at) (going : Going file ends Γ goal at left next count k) where
    module _ (below : k < length (goals file ends Γ goal at left)) where
      pub next_fits : k < 8
      next_fits = let h = below in let l = children-few file ends goal (payload_at file at) at in omega arith

      -- the goals from k on
      split : drop k (goals file ends Γ goal at left)
          ≡ child_at file ends goal rule at k ∷ drop (k + 1) (goals file ends Γ goal at left)
      split =
          drop-one (goals file ends Γ goal at left) k goal below
          ∙ ap (λ n. get_or (children_at file ends goal n at) k goal ∷ drop (k + 1) (goals file ends Γ goal at left)) (sym e)

      pub child-asked : CanChild file ends goal rule at k
      child-asked =
          record {
            size = p.can.size;
            low = goal-low Γ file ends p.can.goal-stands;
            place = goal-place Γ file ends p.can.goal-stands;
            some = subst (λ n. k < length (children_at file ends goal n at)) (sym e) below;
          }

      -- the tree of the child and those after it
      record ChildOf (child : Goal) (g : TreeGoal) (end : ℕ) : Type 0 where
        tree : TreeGoal
        others : List TreeGoal
        past : ℕ
        stands : GoalStands Γ file ends child tree left next past
        rest-stand : GoalsStand Γ file ends (drop (k + 1) (goals file ends Γ goal at left)) others left past end
        judged : verdict Γ g ≡ accepted count also (verdict Γ tree also verdicts Γ others)

      module _ {child : Goal} (c : child ≡ child_at file ends goal rule at k) where
        child-of : (g : TreeGoal) (end : ℕ) → GoalStands Γ file ends goal g (suc left) at end → ChildOf child g end
        child-of g end s =
            let x = going.goes g end s in
            go x.trees (subst (λ l. GoalsStand Γ file ends l x.trees left next end)
            (split ∙ ap (λ a. a ∷ drop (k + 1) (goals file ends Γ goal at left)) (sym c)) x.stand) x.judged
          where
            go : (ts : List TreeGoal) →
                GoalsStand Γ file ends (child ∷ drop (k + 1) (goals file ends Γ goal at left)) ts left next end →
                verdict Γ g ≡ accepted count also verdicts Γ ts → ChildOf child g end
            go [] h j = absurd h
            go (t ∷ ts) h j =
                record { tree = t; others = ts; past = h.0; stands = h.1; rest-stand = h.2; judged = j }

        its_child : ChildOf child p.can.tree p.can.end
        its_child = child-of p.can.tree p.can.end p.can.goal-stands

        pub child-can : CanJudge file ends Γ child next left
        child-can = record {
          ends_of = p.can.ends_of;
          procedures = p.can.procedures;
          size = p.can.size;
          few = p.can.few;
          low = omega (arith, p.can.low);
          tree = its_child.tree;
          end = its_child.past;
          goal-stands = its_child.stands;
        }

        pub going_refused : {x : Refusal} {r : Answer} → JudgedOf file ends Γ child next left (Err x) →
            (y : Refusal) × (r ≡ Err y) × (y ≡ x) → Goes file ends Γ goal at left r
        going_refused child-judged out = record {
          judged = λ g end s.
              let y = child-of g end s in
              out.1 ∙ ap Err out.2
              ∙ refused-is (verdict Γ y.tree) (verdicts Γ y.others) count y.past end
              (child-judged.judged y.tree y.past y.stands)
              ∙ sym (ap (λ v. judged_of v end) y.judged);
        }

        module _ {j : Judged} (child-judged : JudgedOf file ends Γ child next left (Ok j)) where
          judged-is : {g : TreeGoal} {end : ℕ} (y : ChildOf child g end) →
              (verdict Γ y.tree ≡ accepted j.count) × (j.end ≡ y.past)
          judged-is y = accepted-is (verdict Γ y.tree) (child-judged.judged y.tree y.past y.stands)

          pub going_step : Going file ends Γ goal at left j.end (count + j.count) (k + 1)
          going_step = record {
            goes = λ g end s.
                let y = child-of g end s in
                let i = judged-is y in
                let few = (going.goes g end s).few in
                let c = goal-counts Γ file ends y.stands j.count i.0 in
                record {
                  trees = y.others;
                  stand = subst (λ q. GoalsStand Γ file ends (drop (k + 1) (goals file ends Γ goal at left))
                      y.others left q end) (sym i.1) y.rest-stand;
                  judged = y.judged ∙ ap (λ v. accepted count also (v also verdicts Γ y.others)) i.0
                      ∙ also_sum count j.count (verdicts Γ y.others);
                  few = omega (arith, few, c, i.1);
                };
          }

          -- no count is larger than the words of the file, and one
          pub count_fits : {bound : ℕ} → 8193 < bound → count + j.count < bound
          count_fits b =
              let y = its_child in
              let i = judged-is y in
              let few = (going.goes p.can.tree p.can.end p.can.goal-stands).few in
              let c = goal-counts Γ file ends y.stands j.count i.0 in
              let l = goal-inside Γ file ends y.stands in
              let z = p.can.size in
              omega (arith, few, c, l, z, b)

    pub going_end : k ≡ length (goals file ends Γ goal at left) → Goes file ends Γ goal at left (answer count next)
    going_end z = record {
      judged = λ g end s.
          let x = going.goes g end s in
          go g end x.trees (subst (λ l. GoalsStand Γ file ends l x.trees left next end)
          (drop_all (goals file ends Γ goal at left) k z) x.stand) x.judged;
    }
      where
        go : (g : TreeGoal) (end : ℕ) (ts : List TreeGoal) → GoalsStand Γ file ends [] ts left next end →
            verdict Γ g ≡ accepted count also verdicts Γ ts → answer count next ≡ judged_of (verdict Γ g) end
        go g end [] h j =
            ap (λ i. answer count i) h ∙ sym (ap (λ v. judged_of v end) (j ∙ also_last count))
        go g end (t ∷ ts) h j = absurd h
