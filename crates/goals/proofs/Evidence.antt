-- The evidence of a goal by its rule: what it carries stands at the places that the list of ends gives, and its children
-- stand after that.
-- Assumes nothing.
--     Placed, placed     parts at their places; of parts that stand
--     payload-is         the payload of an evidence word is its rule's number
--     evidence-of        evidence whose word has the number of a rule is of that rule
use mathlib.Core.Path.{◌≡◌, sym, ap, subst, ◌∙◌}
use mathlib.Core.List.{List}
use mathlib.Core.Option.{some}
use Prim.Native.Nat.{ℕ, suc, ◌+◌, ◌≤◌}
use lib.IntN.{pos}
use Rattle.rules.specs.Words.{word}
use Rattle.rules.specs.Context.{Context}
use Rattle.rules.specs.Evidence.{Judgement, Item, Rule, Row, row, rules, by, assertion, command, members, child, done, ◌&◌}
use Rattle.rules.specs.Evidence.{item, Tree, Evidence, Parts}
use Rattle.layout.specs.Bytes.{payload_at}
use Rattle.layout.specs.ReadEvidence.{evidence_kind, rule_of}
use Rattle.layout.specs.EvidenceWords.{spelled_tree, FitsTree}
use Rattle.layout.specs.Nodes.{expression_node, command_node, set_node}
use Rattle.layout.proofs.Nodes.{content-at}
use Rattle.layout.proofs.SpelledEvidence.{parted-trees}
use Rattle.layout.proofs.BackEvidence.{rule-row, rule-range}
use Rattle.ends.specs.Ends.{EndsOf}
use Rattle.ends.specs.Places.{end_at, WrittenAt, SetAt}
use Rattle.ends.proofs.Places.{node_then}
use Rattle.goals.specs.Resolved.{ResolvedAt, EvidenceAt}

module _ (Γ : Context) (file ends : List ℕ) where
  -- with d levels left, from a place up to another
  abbrev pub Placed : ℕ → {l : List Item} → Parts l → ℕ → ℕ → Type 0
  Placed d done at end = at ≡ end
  Placed d (assertion φ & t) at end = WrittenAt file ends φ at × Placed d t (end_at ends at) end
  Placed d (command c & t) at end = ResolvedAt file ends Γ c at × Placed d t (end_at ends at) end
  Placed d (members p & t) at end = SetAt file ends Γ p at × Placed d t (end_at ends at) end
  Placed d (child k & t) at end = (q : ℕ) × EvidenceAt Γ file d at k q × Placed d t q end

  -- a part, and then others
  parted : {x : Item} {l : List Item} (a : Tree (item x)) (t : Parts l) (d at p : ℕ) → EvidenceAt Γ file d at (a & t) p →
      (q : ℕ) × EvidenceAt Γ file d at a q × EvidenceAt Γ file d q t p
  parted a t d at p s =
      let x = parted-trees Γ file a t d at p s.stands in (
        x.0,
        record { stands = x.1; carried = s.carried.0 },
        record { stands = x.2; carried = s.carried.1 },
      )

  pub placed : EndsOf file ends → (d : ℕ) → d ≤ 256 → {l : List Item} (t : Parts l) (at end : ℕ) →
      EvidenceAt Γ file d at t end → Placed d t at end
  unfolding spelled_tree FitsTree
  placed o d l done at end s = s.stands.stand
  placed o d l (assertion φ & t) at end s =
      let x = parted (assertion φ) t d at end s in
      node_then o (expression_node φ) d l (λ q. Placed d t q end) x.1.stands (placed o d l t x.0 end x.2)
  placed o d l (command c & t) at end s =
      let x = parted (command c) t d at end s in
      let y = node_then o (command_node Γ c) d l (λ q. Placed d t q end) x.1.stands (placed o d l t x.0 end x.2) in
      (record { there = y.0; resolved = x.1.carried }, y.1)
  placed o d l (members p & t) at end s =
      let x = parted (members p) t d at end s in
      node_then o (set_node Γ p) d l (λ q. Placed d t q end) x.1.stands (placed o d l t x.0 end x.2)
  placed o d l (child k & t) at end s =
      let x = parted (child k) t d at end s in
      (x.0, record { stands = x.1.stands; carried = x.1.carried }, placed o d l t x.0 end x.2)

  pub payload-is : {j : Judgement} {n : ℕ} {l : List Item} (r : Rule j n l) (i : ℕ) (t : Parts l) (d at end : ℕ) →
      EvidenceAt Γ file d at (by r i t) end → payload_at file at ≡ n
  unfolding spelled_tree
  payload-is {j} {n} r i t d at end s = content-at file at (word (evidence_kind j) (pos n)) s.stands.stand.1 (rule-range r)

  -- evidence of a row, with its parts after its word
  pub record OfRow {j : Judgement} (ρ : Row j) (e : Evidence j) (d at end : ℕ) : Type 0 where
    pub parts : Parts ρ.after
    pub is : e ≡ by ρ.rule at parts
    pub stand : EvidenceAt Γ file d (at + 1) parts end

  pub evidence-of : {j : Judgement} {n : ℕ} (ρ : Row j) → rule_of n (rules j) ≡ some ρ → (e : Evidence j)
      (d at end : ℕ) → EvidenceAt Γ file (suc d) at e end → payload_at file at ≡ n → OfRow ρ e d at end
  unfolding spelled_tree FitsTree
  evidence-of {j} {n} ρ h (by {n = m} r i t) d at end s p =
      let same : m ≡ n = sym (payload-is r i t (suc d) at end s) ∙ p in
      let rows : some (row r) ≡ some ρ = sym (rule-row r).0 ∙ ap (λ k. rule_of k (rules j)) same ∙ h in
      let is : row r ≡ ρ = cc in
      subst (λ σ. OfRow σ (by r i t) d at end) is (record {
        parts = t;
        is = ap (λ k. by r k t) s.stands.fit.0;
        stand = record { stands = record { stand = s.stands.stand.2; fit = s.stands.fit.1 }; carried = s.carried };
      })
