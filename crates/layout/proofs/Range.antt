-- The words of evidence, and of a program, are in range.
-- Assumes nothing.
--     tree-range     of evidence that fits
--     program-range  of the parts of a program
use Prim.Native.Nat.{ℕ, zero, suc, ◌+◌}
use lib.ListN.{length}
use Rattle.rules.specs.Words.{command_words}
use Rattle.rules.specs.Context.{Context}
use Rattle.rules.specs.Evidence.{Standing, Tree, by, assertion, command, members, child, done, ◌&◌}
use Rattle.layout.specs.Spelling.{set_words}
use Rattle.layout.specs.EvidenceWords.{joined, EachFits, spelled_tree, FitsTree}
use Rattle.layout.specs.Nodes.{expression_node, command_node, set_node, AllInRange}
use Rattle.layout.specs.Program.{Program}
use Rattle.layout.specs.FileWords.{program_parts}
use Rattle.layout.proofs.Nodes.{in_range-append, node_range}
use Rattle.layout.proofs.BackEvidence.{rule-range}

module _ (Γ : Context) where
  pub tree-range : {s : Standing} (t : Tree s) (d at : ℕ) → FitsTree Γ t d at → AllInRange (spelled_tree t)
  unfolding spelled_tree FitsTree
  tree-range (by r i t) zero at h = absurd h
  tree-range (by r i t) (suc d) at h = (rule-range r, tree-range t d (at + 1) h.1)
  tree-range (assertion φ) d at h = node_range d (expression_node φ) h
  tree-range (command c) d at h = node_range d (command_node Γ c) h
  tree-range (members p) d at h = node_range d (set_node Γ p) h
  tree-range (child k) d at h = tree-range k d at h
  tree-range done d at h = tt
  tree-range (x & t) d at h =
      in_range-append (spelled_tree x) (spelled_tree t) (tree-range x d at h.0)
      (tree-range t d (at + length (spelled_tree x)) h.1)

  pub program-range : (f : Program) (at : ℕ) → EachFits (program_parts Γ f) Γ.limits.depth at →
      AllInRange (joined (program_parts Γ f))
  unfolding joined EachFits
  program-range f at h =
      let d = Γ.limits.depth in
      in_range-append (command_words f.command) _ (node_range d (command_node Γ f.command) h.0)
      (in_range-append (set_words f.pre) _ (node_range d (set_node Γ f.pre) h.1.0)
      (in_range-append (set_words f.post) _ (node_range d (set_node Γ f.post) h.1.1.0)
      (in_range-append (spelled_tree f.evidence) _ (tree-range f.evidence d _ h.1.1.1.0) tt)))
