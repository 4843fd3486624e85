-- What a rule of any judgement is tried on: its evidence word, and the parts after it.
-- Assumes nothing.
--     step-head, low-head  the evidence word is in the file
--     first_word           the first word of what has words is in the file
--     can-try              a goal that can be judged, tried by its rule
--     NoneFrom, last-rule  a number that is none of some in a row; a goal tried by the last rule, which is none of those before
--     PartsAt, parts-of    the parts after an evidence word of a rule, at their places
--     up-to                a goal up to the same place by another name
--     tested               the code's test is the rule's
--     is-first, is-second  the only child, and the second of two
--     only-rule            the last rule that has children
use mathlib.Core.Path.{◌≡◌, refl, ap, subst, ◌∙◌}
use mathlib.Core.Bool.{Bool, true, false, cond}
use mathlib.Core.List.{List, []}
use Prim.Native.Nat.{ℕ, zero, suc, ◌+◌, ◌<◌, ◌≤◌}
use native.Mathlib.Omega.{arith}
use borrow.Author.Tests.{eqb-true, leb-true, ltb-true}
use lib.Dec.{eqb, ltb, leb}
use lib.ListN.{length}
use Rattle.rules.specs.Context.{Context}
use Rattle.rules.specs.Condition.{test}
use Rattle.rules.specs.Evidence.{Judgement, Item, Rule, Row, row, rules, by, Evidence, Parts}
use Rattle.layout.specs.Bytes.{payload_at}
use Rattle.layout.proofs.SpelledEvidence.{head-inside}
use Rattle.layout.proofs.BackEvidence.{rule-row}
use Rattle.layout.proofs.Nodes.{Inside}
use Rattle.implication.specs.Sides.{result_of}
use Rattle.implication.specs.Sides.{Condition}
use Rattle.goals.specs.Children.{judgement_of}
use Rattle.goals.specs.Conditions.{condition_of}
use Rattle.goals.specs.Resolved.{EvidenceAt}
use Rattle.goals.specs.Goals.{TreeGoal, GoalStands, flow-stands, set-stands, pre-stands, CanStep, CanTry}
use Rattle.goals.specs.declared.Goal.{Goal}
use Rattle.goals.proofs.Evidence.{Placed, placed, payload-is, evidence-of}
use Rattle.goals.proofs.Children.{all_rows, by-table}
use Rattle.goals.proofs.Comes.{tested-result}

record Evident (Γ : Context) (file : List ℕ) (j : Judgement) (d at end : ℕ) : Type 0 where
  evidence : Evidence j
  there : EvidenceAt Γ file d at evidence end

evidence-at : {Γ : Context} {file ends : List ℕ} {goal : Goal} {g : TreeGoal} {d at end : ℕ} →
    GoalStands Γ file ends goal g d at end → Evident Γ file (judgement_of goal) d at end
evidence-at (flow-stands {k = k} x y z s) = record { evidence = k; there = s }
evidence-at (set-stands {k = k} x y s) = record { evidence = k; there = s }
evidence-at (pre-stands {k = k} x y z s) = record { evidence = k; there = s }

pub first_word : {file : List ℕ} {at end : ℕ} → Inside file at end → at < length file
first_word i = let s = i.start in let w = i.within in omega arith

-- n is none of the m numbers from a on
abbrev pub NoneFrom : ℕ → ℕ → ℕ → Type 0
NoneFrom n a zero = Unit {0}
NoneFrom n a (suc m) = NoneFrom n a m × (n ≡ a + m → ⊥)

above : (n a m : ℕ) → a ≤ n → NoneFrom n a m → a + m ≤ n
above n a zero l h = omega arith
above n a (suc m) l (h, d) = let k = above n a m l h in omega arith

-- the number of a row is one of the m from a on, or the last
abbrev among : {j : Judgement} → ℕ → ℕ → ℕ → Row j → Bool
among a m last ρ = cond (eqb ρ.number last) true (cond (leb a ρ.number) (ltb ρ.number (a + m)) false)

-- it is the last, where it is none of the others
is_last : (a m last n : ℕ) → cond (eqb n last) true (cond (leb a n) (ltb n (a + m)) false) ≡ true → NoneFrom n a m → n ≡ last
is_last a m last n h none = go (eqb n last) refl h
  where
    others : (t : Bool) → leb a n ≡ t → cond t (ltb n (a + m)) false ≡ true → ⊥
    others true e h =
        let k = above n a m (leb-true a n e) none in
        omega (arith, ltb-true n (a + m) h)
    others false e h = let z : ◌≡◌ {A = ℕ} 0 1 = cc in omega (arith, z)

    go : (t : Bool) → eqb n last ≡ t → cond t true (cond (leb a n) (ltb n (a + m)) false) ≡ true → n ≡ last
    go true e h = eqb-true n last e
    go false e h = absurd (others (leb a n) refl h)

pub record PartsAt (Γ : Context) (file ends : List ℕ) (l : List Item) (at : ℕ) : Type 0 where
  pub parts : Parts l
  pub levels : ℕ
  pub end : ℕ
  pub parts-placed : Placed Γ file ends levels parts at end

module _ {file ends : List ℕ} {Γ : Context} {goal : Goal} {at : ℕ} where
  pub step-head : CanStep file ends Γ goal at → at < length file
  step-head can =
      let x = evidence-at can.goal-stands in
      head-inside Γ file x.evidence (suc can.levels) at can.end x.there.stands

  pub low-head : {n : ℕ} → CanTry file ends Γ n goal at → at < 8192
  low-head can = let h = step-head can.can in let s = can.can.size in omega arith

  pub can-try : {n : ℕ} → CanStep file ends Γ goal at → payload_at file at ≡ n → CanTry file ends Γ n goal at
  can-try can e = record { can = can; rule-is = e }

  -- the rules before the last are the m that are numbered from a on
  pub last-rule : (can : CanStep file ends Γ goal at) (a m last : ℕ) →
      all_rows (among a m last) (rules (judgement_of goal)) ≡ true → NoneFrom (payload_at file at) a m → CanTry file ends Γ last goal at
  last-rule can a m last rows h =
      let x = evidence-at can.goal-stands in
      can-try can (number x.evidence x.there)
    where
      number : (e : Evidence (judgement_of goal)) → EvidenceAt Γ file (suc can.levels) at e can.end →
          payload_at file at ≡ last
      number (by {n = n} r i t) s =
          let is = payload-is Γ file ends r i t (suc can.levels) at can.end s in
          is ∙ is_last a m last n (by-table (among a m last) rows r) (subst (λ k. NoneFrom k a m) is h)

  pub parts-of : {n : ℕ} {l : List Item} → CanTry file ends Γ n goal at → Rule (judgement_of goal) n l →
      PartsAt Γ file ends l (at + 1)
  parts-of can r =
      let k = can.can in
      let x = evidence-at k.goal-stands in
      let w = evidence-of Γ file ends (row r) (rule-row r).0 x.evidence k.levels at k.end x.there can.rule-is in
      record {
        parts = w.parts;
        levels = k.levels;
        end = k.end;
        parts-placed = placed Γ file ends k.ends_of k.levels k.low w.parts (at + 1) k.end w.stand;
      }

pub up-to : {Γ : Context} {file ends : List ℕ} {g : Goal} {t : TreeGoal} {d at q end : ℕ} →
    GoalStands Γ file ends g t d at q → q ≡ end → GoalStands Γ file ends g t d at end
up-to {Γ} {file} {ends} {g} {t} {d} {at} s e = subst (λ i. GoalStands Γ file ends g t d at i) e s

pub tested : {b t : Bool} {c : Condition} → c ≡ condition_of b → b ≡ t → result_of c ≡ test t
tested {b} e h = ap result_of e ∙ tested-result b ∙ ap test h

pub is-first : {k : ℕ} → k < 1 → k ≡ 0
is-first n = omega arith

pub is-second : {k : ℕ} → k < 2 → (k ≡ 0 → ⊥) → k ≡ 1
is-second n h = omega arith

in_first : (b : Bool) (l : List Goal) (k : ℕ) → k < length (cond b l []) → b ≡ true
in_first true l k h = refl
in_first false l k h = absurd (omega arith)

-- a rule that has children, and is none of those before the last
pub only-rule : (rule n : ℕ) (l : List Goal) (k : ℕ) → k < length (cond (eqb rule n) l []) → rule ≡ n
only-rule rule n l k h = eqb-true rule n (in_first (eqb rule n) l k h)
