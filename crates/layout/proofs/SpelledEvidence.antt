-- What is read stands in the file by its words and fits (document 01, "Layout" and "Rules"): evidence.
-- Assumes nothing.
--     TreeAt, joined-trees, parted-trees    it stands from a place up to another and fits; one part and then others
--     head-inside                           its word is in the file
--     evidence-past                         by cases on the reading, refusals too
use mathlib.Core.Path.{◌≡◌, refl, sym, subst}
use mathlib.Core.List.{List, [], ◌∷◌}
use Prim.Native.Nat.{ℕ, zero, suc, ◌<◌}
use lib.IntN.{pos}
use Rattle.language.specs.Syntax.{Boolean}
use Rattle.rules.specs.Context.{Context}
use Rattle.rules.specs.Evidence.{Judgement, Item, assertion_item, command_item, members_item, child_item, Row, rules}
use Rattle.rules.specs.Evidence.{Standing, item, Tree, by, ◌&◌, Evidence, Parts}
use Rattle.layout.specs.Bytes.{word_count}
use Rattle.layout.specs.Reading.{Reader}
use Rattle.layout.specs.ReadEvidence.{evidence_kind, rule_of, item_reader, parts_reader, evidence}
use Rattle.layout.specs.EvidenceWords.{spelled_tree, FitsTree, tree_part}
use Rattle.layout.specs.Standing.{PartStands}
use Rattle.layout.proofs.Words.{word-found}
use Rattle.layout.proofs.Stands.{both, parted, stands-end}
use Rattle.layout.proofs.Yields.{Optional, nothing, something, entry, on-option}
use Rattle.layout.proofs.Yields.{Yields, Past, past-yields, start, ◌▹◌, level-past, due-past}
use Rattle.layout.proofs.Spelled.{expression-past, command-past, set_past}

module _ (Γ : Context) (file : List ℕ) where
  abbrev pub TreeAt : {s : Standing} → ℕ → ℕ → Tree s → ℕ → Type 0
  TreeAt d at t p = PartStands file (tree_part Γ t) d at p

  -- a part, and then others
  pub joined-trees : {x : Item} {l : List Item} (a : Tree (item x)) (t : Parts l) (d at q p : ℕ) → TreeAt d at a q →
      TreeAt d q t p → TreeAt d at (a & t) p
  unfolding spelled_tree FitsTree
  joined-trees a t d at q p s r =
      let e = stands-end file at (spelled_tree a) q s.stand in
      let x = both s r in
      record { stand = x.stand; fit = (s.fit, subst (λ i. FitsTree Γ t d i) e r.fit) }

  pub parted-trees : {x : Item} {l : List Item} (a : Tree (item x)) (t : Parts l) (d at p : ℕ) → TreeAt d at (a & t) p →
      (q : ℕ) × TreeAt d at a q × TreeAt d q t p
  unfolding spelled_tree FitsTree
  parted-trees a t d at p s = parted (spelled_tree a) (spelled_tree t) s λ q u v.
      let e = stands-end file at (spelled_tree a) q u.stand in
      (q, u, record { stand = v.stand; fit = subst (λ i. FitsTree Γ t d i) (sym e) v.fit })

  pub head-inside : {j : Judgement} (e : Evidence j) (d at p : ℕ) → TreeAt d at e p → at < word_count file
  unfolding spelled_tree
  head-inside (by r i t) d at p s = s.stand.0

  module _ (d : ℕ) (child : (j : Judgement) → Reader (Evidence j))
      (known : (j : Judgement) (q : ℕ) → Yields file q (TreeAt d q) (child j)) where
    item-yields : (x : Item) (q : ℕ) → Yields file q (TreeAt d q) (item_reader Γ file d child x)
    unfolding spelled_tree FitsTree
    item-yields assertion_item q = start _ (λ φ p s. s) ▹ λ i. past-yields (expression-past file d Boolean i)
    item-yields command_item q = start _ (λ c p s. s) ▹ λ i. past-yields (command-past file Γ d i)
    item-yields members_item q = start _ (λ m p s. s) ▹ λ i. past-yields (set_past file Γ d i)
    item-yields (child_item j) q = start _ (λ k p s. s) ▹ known j

    parts-yields : (l : List Item) (q : ℕ) → Yields file q (TreeAt d q) (parts_reader Γ file d child l)
    unfolding spelled_tree FitsTree
    parts-yields [] q = start _ (record { stand = refl; fit = tt })
    parts-yields (x ∷ l) q =
        start _ (λ a i s t p r. joined-trees a t d q i p s r) ▹ item-yields x ▹ parts-yields l

  -- the row of a number has that number
  rule_found : {j : Judgement} (p : ℕ) (l : List (Row j)) → Optional (λ r. p ≡ r.number) (rule_of p l)
  rule_found p [] = nothing
  rule_found p (r ∷ l) = entry p r.number something (rule_found p l)

  pub evidence-past : (d : ℕ) (j : Judgement) (at : ℕ) → Past file at (TreeAt d at) (evidence Γ file d j)
  unfolding evidence spelled_tree FitsTree
  evidence-past zero j at = level-past at _
  evidence-past (suc d) j at =
      due-past at _ λ k p f. entry k (evidence_kind j) (λ e.
      on-option (rule_of p (rules j)) _ (rule_found p (rules j)) λ r h.
      start _ (λ t q s. record {
        stand = (f.inside, word-found (evidence_kind j) (pos r.number) f e (sym h), s.stand);
        fit = (refl, s.fit);
      }) ▹ parts-yields d (evidence Γ file d) (λ i q. past-yields (evidence-past d i q)) r.after) nothing
