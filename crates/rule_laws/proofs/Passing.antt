-- Sameness with what stands at a place, as the functions that compare find it.
-- Assumes nothing.
--     same-command                     a written command is made of words that stand up to its end
--     can-assertion, assertion-at      two written assertions
--     can-consequent, consequent-at    two written consequents
use mathlib.Core.Path.{◌≡◌, ap, ◌∙◌}
use mathlib.Core.Bool.{Bool}
use mathlib.Core.List.{List}
use Prim.Native.Nat.{ℕ}
use Rattle.std.specs.Prelude.{Result, Ok}
use native.Mathlib.Omega.{arith}
use Rattle.language.specs.Syntax.{Command}
use Rattle.rules.specs.Context.{Context}
use Rattle.rules.specs.Words.{Word, command_words, same_words}
use Rattle.layout.specs.Nodes.{command_node, AllInRange}
use Rattle.layout.proofs.Nodes.{node_range}
use Rattle.ends.specs.Places.{end_at, CommandAt}
use Rattle.ends.proofs.Places.{node_inside}
use Rattle.matching.specs.Matching.{numbers, matched, came, same_numbers}
use Rattle.rules.specs.Tests.{same_antecedent}
use Rattle.compare.specs.Trees.{boolean_at}
use Rattle.matching.specs.Places.{part}
use Rattle.compare.specs.Forms.{antecedent_tree, consequent_numbers, AntecedentAt, ConsequentAt, CanAntecedent}
use Rattle.compare.specs.Forms.{CanConsequent}
use Rattle.compare.specs.declared.antecedent.Antecedent.TheVariants.{Written}
use Rattle.compare.specs.declared.consequent.Consequent.TheVariants.{Written as Verbatim}
use Rattle.matching.proofs.Numbers.{stands-between, numbers-tell}
use Rattle.matching.proofs.SameNumbers.{came_same, numbers-same}
use Rattle.compare.proofs.Halves.{is-written, antecedent-same, is-verbatim, consequent-same}
use Rattle.rule_laws.specs.Sameness.{CanSame, CanSameAssertion, SameAssertionAt, SameAt}

module _ {file ends : List ℕ} where
  pub same-command : {Γ : Context} {c : Command} {at : ℕ} (l : List Word) {m : Result ℕ ℕ} → CommandAt file ends Γ c at →
      AllInRange l → m ≡ matched file (Ok at) (numbers l) → came m (end_at ends at) ≡ same_words (command_words c) l
  same-command {Γ} {c} {at} l {m} x f p =
      let i = node_inside x in
      let s = i.start in
      came_same file m (numbers l) at (end_at ends at) (omega arith) i.within p
      ∙ ap (λ k. same_numbers k (numbers l)) (stands-between file at (command_words c) (end_at ends at) x.stands.stand)
      ∙ numbers-same (command_words c) l
      (numbers-tell (command_words c) l (node_range x.levels (command_node Γ c) x.stands.fit) f)

  module _ {f g : ℕ} where
    pub can-assertion : CanSameAssertion file ends f g → CanAntecedent file ends f (Written g)
    unfolding AntecedentAt
    can-assertion p = record { ends_of = p.ends_of; whole = p.first; form-at = p.second }

    pub assertion-at : {r : Bool} → r ≡ same_antecedent (boolean_at file f) (antecedent_tree file (Written g)) →
        SameAssertionAt file ends f g r
    assertion-at h = record { is = λ φ ψ x y. h ∙ antecedent-same x (is-written y) }

    pub can-consequent : CanSame file ends f g → CanConsequent file ends f (Verbatim g)
    unfolding ConsequentAt
    can-consequent p = record { whole = p.first; form-at = p.second }

    pub consequent-at : {r : Bool} → r ≡ same_numbers (part file ends f) (consequent_numbers file ends (Verbatim g)) →
        SameAt file ends f g r
    consequent-at h = record { is = λ d e x y. h ∙ consequent-same x (is-verbatim y) }
