-- Evidence, read at a place with so many levels left (document 01, "Layout" and "Rules"): its word, then what its rule
-- carries and its children, by the table of rules.
-- Trusted. Assumes nothing.
--     evidence_kind, rule_of      the kind of a judgement's evidence; the row of a rule by its number
--     item_reader, parts_reader   what may stand after an evidence word; such items one after the other
--     evidence                  the reader
use Rattle.std.specs.Prelude.{cond, List, [], ◌∷◌, ℕ, zero, suc, eqb}
use Rattle.std.proofs.Math.Option.{Option, none, some}
use Rattle.language.specs.Syntax.{Boolean}
use Rattle.rules.specs.Context.{Context}
use Rattle.rules.specs.Evidence as tree
use Rattle.rules.specs.Evidence.{Judgement, flow, implication, precondition, Item, assertion_item, command_item}
use Rattle.rules.specs.Evidence.{members_item, child_item, Row, rules, item, Tree, by, done, ◌&◌, Evidence, Parts}
use Rattle.layout.specs.Reading.{Reader, pure, ◌⊛◌, no_level, word_due, allow, on_option}
use Rattle.layout.specs.Read.{expression, command, set}

abbrev pub evidence_kind : Judgement → ℕ
evidence_kind flow = 33
evidence_kind implication = 34
evidence_kind precondition = 35

abbrev pub rule_of : {j : Judgement} → ℕ → List (Row j) → Option (Row j)
rule_of n [] = none
rule_of n (r ∷ l) = cond (eqb n r.number) (some r) (rule_of n l)

-- `child j` reads evidence of the judgement j
module _ (Γ : Context) (file : List ℕ) (d : ℕ) (child : (j : Judgement) → Reader (Evidence j)) where
  abbrev pub item_reader : (x : Item) → Reader (Tree (item x))
  item_reader assertion_item = pure tree.assertion ⊛ expression file d Boolean
  item_reader command_item = pure tree.command ⊛ command Γ file d
  item_reader members_item = pure tree.members ⊛ set Γ file d
  item_reader (child_item j) = pure tree.child ⊛ child j

  abbrev pub parts_reader : (l : List Item) → Reader (Parts l)
  parts_reader [] = pure done
  parts_reader (x ∷ l) = pure ◌&◌ ⊛ item_reader x ⊛ parts_reader l

unfoldable pub evidence : Context → List ℕ → ℕ → (j : Judgement) → Reader (Evidence j)
evidence Γ file zero j at = no_level file at
evidence Γ file (suc d) j at = word_due file (λ i k p. allow k ((
  evidence_kind j,
  on_option (rule_of p (rules j)) λ r.
      pure (by r.rule i) ⊛ parts_reader Γ file d (λ j q. evidence Γ file d j q) r.after,
) ∷ [])) at
