-- What stands in the file by its words and fits is read (document 01, "Layout" and "Rules"): evidence.
-- Assumes nothing.
--     rule-row, rule-range          a rule is in the table, by its number; its word is in range
--     evidence-stands               from what stands to what is read
use mathlib.Core.Path.{◌≡◌, refl}
use mathlib.Core.List.{List}
use mathlib.Core.Option.{some}
use Prim.Native.Nat.{ℕ, zero, suc, ◌+◌, ◌≤◌}
use native.Mathlib.Omega.{arith}
use borrow.Author.Tests.{eq-eqb}
use lib.IntN.{pos}
use Rattle.rules.specs.Words.{word}
use Rattle.rules.specs.Context.{Context}
use Rattle.rules.specs.Evidence.{Judgement, flow, implication, precondition, Item, Rule, row, rules, item, Tree, by, assertion, command, members}
use Rattle.rules.specs.Evidence.{child, done, ◌&◌, Evidence, Parts, flow1, flow2, flow3, flow4, flow5, flow6, flow7}
use Rattle.rules.specs.Evidence.{flow8, flow9, flow10, flow11, flow12, flow13, flow14, flow31, set13, set14, set15, set16}
use Rattle.rules.specs.Evidence.{set17, set18, set19, pre20, pre21, pre22, pre23, pre24, pre25, pre26, pre27, pre28}
use Rattle.rules.specs.Evidence.{pre29, pre30, pre32}
use Rattle.layout.specs.Reading.{Reader}
use Rattle.layout.specs.ReadEvidence.{evidence_kind, rule_of, item_reader, parts_reader, evidence}
use Rattle.layout.specs.EvidenceWords.{spelled_tree, FitsTree}
use Rattle.layout.specs.Nodes.{InRange}
use Rattle.layout.proofs.SpelledEvidence.{TreeAt, parted-trees}
use Rattle.layout.proofs.Back.{Back, begun, ◌⊲◌, option_back, word_back}
use Rattle.layout.proofs.Back.{expression-stands, command-stands, set-stands}

pub rule-row : {j : Judgement} {n : ℕ} {l : List Item} (r : Rule j n l) → (rule_of n (rules j) ≡ some (row r)) × (n ≤ 255)
rule-row flow1 = (refl, omega arith)
rule-row flow2 = (refl, omega arith)
rule-row flow3 = (refl, omega arith)
rule-row flow4 = (refl, omega arith)
rule-row flow5 = (refl, omega arith)
rule-row flow6 = (refl, omega arith)
rule-row flow7 = (refl, omega arith)
rule-row flow8 = (refl, omega arith)
rule-row flow9 = (refl, omega arith)
rule-row flow10 = (refl, omega arith)
rule-row flow11 = (refl, omega arith)
rule-row flow12 = (refl, omega arith)
rule-row flow13 = (refl, omega arith)
rule-row flow14 = (refl, omega arith)
rule-row flow31 = (refl, omega arith)
rule-row set13 = (refl, omega arith)
rule-row set14 = (refl, omega arith)
rule-row set15 = (refl, omega arith)
rule-row set16 = (refl, omega arith)
rule-row set17 = (refl, omega arith)
rule-row set18 = (refl, omega arith)
rule-row set19 = (refl, omega arith)
rule-row pre20 = (refl, omega arith)
rule-row pre21 = (refl, omega arith)
rule-row pre22 = (refl, omega arith)
rule-row pre23 = (refl, omega arith)
rule-row pre24 = (refl, omega arith)
rule-row pre25 = (refl, omega arith)
rule-row pre26 = (refl, omega arith)
rule-row pre27 = (refl, omega arith)
rule-row pre28 = (refl, omega arith)
rule-row pre29 = (refl, omega arith)
rule-row pre30 = (refl, omega arith)
rule-row pre32 = (refl, omega arith)

-- the word of a rule
pub rule-range : {j : Judgement} {n : ℕ} {l : List Item} → Rule j n l → InRange (word (evidence_kind j) (pos n))
rule-range {j} r = go j (rule-row r).1
  where
    go : (j : Judgement) {n : ℕ} → n ≤ 255 → InRange (word (evidence_kind j) (pos n))
    go flow h = (omega arith, refl, refl)
    go implication h = (omega arith, refl, refl)
    go precondition h = (omega arith, refl, refl)

module _ (Γ : Context) (file : List ℕ) where
  module _ (d : ℕ) (reader : (j : Judgement) → Reader (Evidence j))
      (known : (j : Judgement) (e : Evidence j) (at p : ℕ) → TreeAt Γ file d at e p → Back (reader j) at e p) where
    item_back : {x : Item} (t : Tree (item x)) (at p : ℕ) → TreeAt Γ file d at t p →
        Back (item_reader Γ file d reader x) at t p
    unfolding spelled_tree FitsTree
    item_back (assertion φ) at p s = begun refl ⊲ expression-stands file d φ at p s
    item_back (command c) at p s = begun refl ⊲ command-stands file Γ d c at p s
    item_back (members m) at p s = begun refl ⊲ set-stands file Γ d m at p s
    item_back (child k) at p s = begun refl ⊲ known _ k at p s

    parts-back : {l : List Item} (t : Parts l) (at p : ℕ) → TreeAt Γ file d at t p →
        Back (parts_reader Γ file d reader l) at t p
    unfolding spelled_tree FitsTree
    parts-back done at p s = begun s.stand
    parts-back (a & t) at p s =
        let x = parted-trees Γ file a t d at p s in
        begun refl ⊲ item_back a at x.0 x.1 ⊲ parts-back t x.0 p x.2

  pub evidence-stands : (d : ℕ) {j : Judgement} (e : Evidence j) (at p : ℕ) → TreeAt Γ file d at e p →
      Back (evidence Γ file d j) at e p
  unfolding evidence spelled_tree FitsTree
  evidence-stands zero (by r i t) at p s = absurd s.fit
  evidence-stands (suc d) (by {j = j} {n = n} r i t) at p s =
      rw s.fit.0 (word_back _ s (rule-range r) (rw (eq-eqb (evidence_kind j) (evidence_kind j) refl)
      (option_back _ _ (rule-row r).0 (begun refl ⊲ parts-back d (evidence Γ file d) (λ j e q p s. evidence-stands d e q p s) t (at + 1) p
      (record { stand = s.stand.2; fit = s.fit.1 })))))
