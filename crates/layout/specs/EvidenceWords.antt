-- How evidence stands in a file (document 01, "Layout" and "Rules"): its word, what it carries, then its children.
-- Working: `evidence-past` of proofs/SpelledEvidence and `evidence-stands` of proofs/BackEvidence say that the reader
-- reads exactly what stands so in a file. Assumes nothing.
--     Part                                      a part of a file: its words, and that it fits at a place
--     expression_part, command_part, set_part      expressions, commands and sets
--     spelled_tree, FitsTree, tree_part           evidence, what it carries, and these one after the other
--     joined, EachFits                          parts one after the other
use Rattle.std.specs.Prelude.{◌≡◌, List, [], ◌∷◌, ◌++◌, ℕ, zero, suc, ◌+◌, pos, length}
use Rattle.language.specs.Syntax.{Sort, Expr, Command}
use Rattle.rules.specs.Words.{Word, word, words, command_words}
use Rattle.rules.specs.Assertion.{Members}
use Rattle.rules.specs.Context.{Context}
use Rattle.rules.specs.Evidence.{Standing, Tree, by, assertion, command, members, child, done, ◌&◌}
use Rattle.layout.specs.Spelling.{FitsExpression, FitsCommand, FitsSet, set_words}
use Rattle.layout.specs.ReadEvidence.{evidence_kind}

-- `fits d at`: it fits at the place `at` with d levels left
pub record Part : Type 1 where
  pub spelling : List Word
  pub fits : ℕ → ℕ → Type 0

abbrev pub expression_part : {k : Sort} → Expr k → Part
expression_part e = record { spelling = words e; fits = λ d at. FitsExpression e d }

unfoldable pub joined : List Part → List Word
joined [] = []
joined (x ∷ l) = x.spelling ++ joined l

unfoldable pub EachFits : List Part → ℕ → ℕ → Type 0
EachFits [] d at = Unit {0}
EachFits (x ∷ l) d at = x.fits d at × EachFits l d (at + length x.spelling)

-- the words of evidence
unfoldable pub spelled_tree : {s : Standing} → Tree s → List Word
spelled_tree (by {j = j} {n = n} r i t) = word (evidence_kind j) (pos n) ∷ spelled_tree t
spelled_tree (assertion φ) = words φ
spelled_tree (command c) = command_words c
spelled_tree (members p) = set_words p
spelled_tree (child k) = spelled_tree k
spelled_tree done = []
spelled_tree (x & t) = spelled_tree x ++ spelled_tree t

module _ (Γ : Context) where
  abbrev pub command_part : Command → Part
  command_part c = record { spelling = command_words c; fits = λ d at. FitsCommand Γ c d }

  abbrev pub set_part : Members → Part
  set_part p = record { spelling = set_words p; fits = λ d at. FitsSet Γ p d }

  -- an evidence word stands at the evidence's own place
  unfoldable pub FitsTree : {s : Standing} → Tree s → ℕ → ℕ → Type 0
  FitsTree (by r i t) zero at = ⊥
  FitsTree (by r i t) (suc d) at = (i ≡ at) × FitsTree t d (at + 1)
  FitsTree (assertion φ) d at = FitsExpression φ d
  FitsTree (command c) d at = FitsCommand Γ c d
  FitsTree (members p) d at = FitsSet Γ p d
  FitsTree (child k) d at = FitsTree k d at
  FitsTree done d at = Unit {0}
  FitsTree (x & t) d at = FitsTree x d at × FitsTree t d (at + length (spelled_tree x))

  abbrev pub tree_part : {s : Standing} → Tree s → Part
  tree_part t = record { spelling = spelled_tree t; fits = λ d at. FitsTree t d at }
