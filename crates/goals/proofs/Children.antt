-- The children of a goal, and the row of its rule.
-- Assumes nothing.
--     all_rows, by-table    a test that every row of the table passes; a rule's row passes it
--     goal-count           a rule has as many goals for children as its row has items past what is carried
--     RowIs, row_is        the row of the rule at the evidence word of a goal that stands
use mathlib.Core.Path.{◌≡◌, refl, ap, subst, ◌∙◌}
use mathlib.Core.Bool.{Bool, true, false, cond}
use mathlib.Core.List.{List, [], ◌∷◌}
use mathlib.Core.Option.{some}
use Prim.Native.Nat.{ℕ}
use native.Mathlib.Omega.{arith}
use borrow.Author.Tests.{eqb-true}
use lib.Dec.{eqb}
use lib.ListN.{length}
use Rattle.rules.specs.Context.{Context}
use Rattle.rules.specs.Evidence.{Judgement, Item, Rule, Row, row, rules, by}
use Rattle.layout.specs.Bytes.{payload_at}
use Rattle.layout.specs.ReadEvidence.{rule_of}
use Rattle.layout.proofs.BackEvidence.{rule-row}
use Rattle.words.specs.Rows.{row_of}
use Rattle.words.proofs.RowItems.{row-rule}
use Rattle.goals.specs.declared.Goal.{Goal}
use Rattle.goals.specs.declared.Goal.TheVariants.{Flow, Set, Pre}
use Rattle.goals.specs.Children.{children_at, carried_off, judgement_of}
use Rattle.goals.specs.Goals.{TreeGoal, tree_items, GoalStands, flow-stands, set-stands, pre-stands}
use Rattle.goals.proofs.Evidence.{payload-is}

both : (b c : Bool) → cond b c false ≡ true → (b ≡ true) × (c ≡ true)
both true c h = (refl, h)
both false c h = let z : ◌≡◌ {A = ℕ} 0 1 = cc in absurd (omega (arith, z))

module _ {j : Judgement} (P : Row j → Bool) where
  abbrev pub all_rows : List (Row j) → Bool
  all_rows [] = true
  all_rows (ρ ∷ l) = cond (P ρ) (all_rows l) false

  in_rows : (l : List (Row j)) (n : ℕ) (σ : Row j) → all_rows l ≡ true → rule_of n l ≡ some σ → P σ ≡ true
  in_rows [] n σ e h = let z : ◌≡◌ {A = ℕ} 0 1 = cc in absurd (omega (arith, z))
  in_rows (ρ ∷ l) n σ e h =
      let b = both (P ρ) (all_rows l) e in
      go (eqb n ρ.number) h b.0 (λ k. in_rows l n σ b.1 k)
    where
      go : (t : Bool) → cond t (some ρ) (rule_of n l) ≡ some σ → P ρ ≡ true → (rule_of n l ≡ some σ → P σ ≡ true) →
          P σ ≡ true
      go true h f k = let is : ρ ≡ σ = cc in subst (λ x. P x ≡ true) is f
      go false h f k = k h

  pub by-table : all_rows (rules j) ≡ true → {n : ℕ} {l : List Item} (r : Rule j n l) → P (row r) ≡ true
  by-table e {n} r = in_rows (rules j) n (row r) e (rule-row r).0

module _ (file ends : List ℕ) (at : ℕ) where
  abbrev counts : (goal : Goal) → Row (judgement_of goal) → Bool
  counts goal ρ = eqb (length (children_at file ends goal ρ.number at)) (length (carried_off ρ.after))

  goal-count : (goal : Goal) {n : ℕ} {l : List Item} → Rule (judgement_of goal) n l →
      length (children_at file ends goal n at) ≡ length (carried_off l)
  goal-count (Flow p c q) r = eqb-true _ _ (by-table (counts (Flow p c q)) refl r)
  goal-count (Set p q) r = eqb-true _ _ (by-table (counts (Set p q)) refl r)
  goal-count (Pre f c g) r = eqb-true _ _ (by-table (counts (Pre f c g)) refl r)

pub record RowIs (file ends : List ℕ) (goal : Goal) (g : TreeGoal) (at : ℕ) : Type 0 where
  pub row : row_of (judgement_of goal) (payload_at file at) ≡ some (tree_items g)
  pub count : length (children_at file ends goal (payload_at file at) at) ≡ length (carried_off (tree_items g))

by-rule : {file ends : List ℕ} {at n : ℕ} (goal : Goal) (g : TreeGoal) → Rule (judgement_of goal) n (tree_items g) →
    payload_at file at ≡ n → RowIs file ends goal g at
by-rule {file} {ends} {at} goal g r e = record {
  row = ap (row_of (judgement_of goal)) e ∙ row-rule r;
  count = ap (λ n. length (children_at file ends goal n at)) e ∙ goal-count file ends at goal r;
}

pub row_is : {Γ : Context} {file ends : List ℕ} {goal : Goal} {g : TreeGoal} {d at end : ℕ} →
    GoalStands Γ file ends goal g d at end → RowIs file ends goal g at
row_is {Γ} {file} {ends} {goal} {g} {d} {at} {end} (flow-stands {k = by r i t} a b z s) =
    by-rule goal g r (payload-is Γ file ends r i t d at end s)
row_is {Γ} {file} {ends} {goal} {g} {d} {at} {end} (set-stands {k = by r i t} a b s) =
    by-rule goal g r (payload-is Γ file ends r i t d at end s)
row_is {Γ} {file} {ends} {goal} {g} {d} {at} {end} (pre-stands {k = by r i t} a b z s) =
    by-rule goal g r (payload-is Γ file ends r i t d at end s)
