-- The count of accepted evidence is at most its words, so no sum of counts overflows; where a goal's parts stand.
-- Assumes nothing.
--     goal-counts           with the evidence's first place, it is at most its end
--     goal-inside           evidence ends inside the file
--     goal-place, goal-low  its word, and the places of its goal, are in the file
--     goal-level            evidence takes a level
use mathlib.Core.Path.{◌≡◌}
use mathlib.Core.List.{List}
use Prim.Native.Nat.{ℕ, zero, suc, ◌+◌, ◌<◌, ◌≤◌}
use native.Mathlib.Omega.{arith}
use lib.ListN.{length}
use Rattle.rules.specs.Context.{Context}
use Rattle.rules.specs.Evidence.{Judgement, by, Evidence}
use Rattle.rules.specs.Judge.{Verdict, accepted}
use Rattle.layout.specs.EvidenceWords.{spelled_tree, FitsTree}
use Rattle.layout.proofs.Stands.{stands-end, stands-inside}
use Rattle.layout.proofs.SpelledEvidence.{TreeAt, head-inside}
use Rattle.rules.proofs.Holds.{tally}
use Rattle.layout.proofs.Counted.{count-length, Counts, tree-tally, flow-counts, set-counts, pre-counts}
use Rattle.goals.specs.declared.Goal.{Goal}
use Rattle.goals.specs.Goals.{TreeGoal, verdict, GoalStands, flow-stands, set-stands, pre-stands}
use Rattle.ends.proofs.Places.{node_inside}
use Rattle.layout.proofs.Nodes.{Inside}
use Rattle.judge.specs.Going.{GoalLow}

module _ (Γ : Context) (file ends : List ℕ) where
  tree-counts : {j : Judgement} (k : Evidence j) {v : Verdict} (d at end n : ℕ) → TreeAt Γ file d at k end →
      Counts v (tally k) → v ≡ accepted n → at + n ≤ end
  tree-counts k d at end n s h e =
      let x = stands-end file at (spelled_tree k) end s.stand in
      let y = h.counted n e in
      let z = count-length (spelled_tree k) in
      let u = tree-tally Γ k d at s.fit in
      omega (arith, x, y, z, u)

  pub goal-counts : {goal : Goal} {g : TreeGoal} {d at end : ℕ} → GoalStands Γ file ends goal g d at end →
      (n : ℕ) → verdict Γ g ≡ accepted n → at + n ≤ end
  goal-counts {d = d} {at} {end} (flow-stands {k} {p} {q} {c} x y z s) n e =
      tree-counts k d at end n s.stands (flow-counts Γ k p c q) e
  goal-counts {d = d} {at} {end} (set-stands {k} {p} {q} x y s) n e =
      tree-counts k d at end n s.stands (set-counts Γ k p q) e
  goal-counts {d = d} {at} {end} (pre-stands {k} {φ} {φ'} {c} x y z s) n e =
      tree-counts k d at end n s.stands (pre-counts Γ k φ c φ') e

  tree-inside : {j : Judgement} (k : Evidence j) (d at end : ℕ) → TreeAt Γ file d at k end → end ≤ length file
  tree-inside k d at end s =
      let h = head-inside Γ file k d at end s in
      stands-inside file at (spelled_tree k) end s.stand (omega (arith, h))

  pub goal-inside : {goal : Goal} {g : TreeGoal} {d at end : ℕ} → GoalStands Γ file ends goal g d at end →
      end ≤ length file
  goal-inside {d = d} {at} {end} (flow-stands {k = k} x y z s) = tree-inside k d at end s.stands
  goal-inside {d = d} {at} {end} (set-stands {k = k} x y s) = tree-inside k d at end s.stands
  goal-inside {d = d} {at} {end} (pre-stands {k = k} x y z s) = tree-inside k d at end s.stands

  pub goal-place : {goal : Goal} {g : TreeGoal} {d at end : ℕ} → GoalStands Γ file ends goal g d at end →
      at < length file
  goal-place {d = d} {at} {end} (flow-stands {k = k} x y z s) = head-inside Γ file k d at end s.stands
  goal-place {d = d} {at} {end} (set-stands {k = k} x y s) = head-inside Γ file k d at end s.stands
  goal-place {d = d} {at} {end} (pre-stands {k = k} x y z s) = head-inside Γ file k d at end s.stands

  first_word : {at end : ℕ} → Inside file at end → at < length file
  first_word i = let s = i.start in let w = i.within in omega arith

  pub goal-low : {goal : Goal} {g : TreeGoal} {d at end : ℕ} → GoalStands Γ file ends goal g d at end → GoalLow file goal
  goal-low (flow-stands x y z s) = (first_word (node_inside x), first_word (node_inside y.there), first_word (node_inside z))
  goal-low (set-stands x y s) = (first_word (node_inside x), first_word (node_inside y))
  goal-low (pre-stands x y z s) = (first_word (node_inside x), first_word (node_inside y.there), first_word (node_inside z))

  tree-level : {j : Judgement} (k : Evidence j) (d at end : ℕ) → TreeAt Γ file d at k end → 1 ≤ d
  unfolding FitsTree
  tree-level (by r i t) zero at end s = absurd s.fit
  tree-level (by r i t) (suc d) at end s = omega arith

  pub goal-level : {goal : Goal} {g : TreeGoal} {d at end : ℕ} → GoalStands Γ file ends goal g d at end → 1 ≤ d
  goal-level {d = d} {at} {end} (flow-stands {k = k} x y z s) = tree-level k d at end s.stands
  goal-level {d = d} {at} {end} (set-stands {k = k} x y s) = tree-level k d at end s.stands
  goal-level {d = d} {at} {end} (pre-stands {k = k} x y z s) = tree-level k d at end s.stands
