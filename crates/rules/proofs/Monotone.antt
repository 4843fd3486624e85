-- The rules are monotone in the sameness of antecedents and assertions: what one sameness derives, every sameness that it implies derives.
-- Rule 17's "without" does not depend on the sameness; if it did, it would leave out more where more members are the same.
-- Assumes nothing.
--     stands-monotone, within-monotone, same-monotone        sets compared
--     necessary-monotone, follows_monotone, flow-monotone    rules 20 to 30 and 32; rules 13 to 19 of sets; rules 1 to 14 and 31
--     flow-by_words                                          every derivation by the rules before request [2] is one by the rules with it
use mathlib.Core.List.{[], ◌∷◌}
use Rattle.language.specs.Syntax.{Boolean, Expr, Command}
use Rattle.rules.specs.Assertion.{Member, Members}
use Rattle.rules.specs.Context.{Context}
use Rattle.rules.specs.Sets.{Sameness, SamePlain, SameByWords, StandsIn, stands_here, stands-later, Within, Same}
use Rattle.rules.specs.Evidence.{FlowEvidence, SetEvidence, PreEvidence}
use Rattle.rules.specs.Derivation.{Necessary, rule-20, rule-21, rule-22, rule-23, rule-24, rule-25, rule-26}
use Rattle.rules.specs.Derivation.{rule-27, rule-28, rule-29, rule-30, rule-32, Follows, set_rule-13, set_rule-14}
use Rattle.rules.specs.Derivation.{set_rule-15, set_rule-16, set_rule-17, set_rule-18, set_rule-19, Flow}
use Rattle.rules.specs.Derivation.{rule-1, rule-2, rule-3, rule-4, rule-5, rule-6, rule-7, rule-8, rule-9}
use Rattle.rules.specs.Derivation.{rule-10, rule-11, rule-12, rule-13, rule-14, rule-31}
use Rattle.rules.proofs.Plain.{words-antecedent}

module _ {S T : Sameness} (implies : (φ ψ : Expr Boolean) → S φ ψ → T φ ψ) where
  pub stands-monotone : {m : Member} {p : Members} → StandsIn S m p → StandsIn T m p
  stands-monotone (stands_here h) =
      stands_here (record { antecedents = implies _ _ h.antecedents; consequents = h.consequents })
  stands-monotone (stands-later h) = stands-later (stands-monotone h)

  pub within-monotone : (p q : Members) → Within S p q → Within T p q
  within-monotone [] q h = tt
  within-monotone (m ∷ p) q h = (stands-monotone h.0, within-monotone p q h.1)

  pub same-monotone : {p q : Members} → Same S p q → Same T p q
  same-monotone {p} {q} h = record { first = within-monotone p q h.first; second = within-monotone q p h.second }

  module _ {Γ : Context} where
    pub necessary-monotone : {k : PreEvidence} {φ φ' : Expr Boolean} {c : Command} →
        Necessary S Γ k φ c φ' → Necessary T Γ k φ c φ'
    necessary-monotone (rule-20 h f g) = rule-20 (implies _ _ h) (necessary-monotone f) (necessary-monotone g)
    necessary-monotone (rule-21 h k f) = rule-21 h k (necessary-monotone f)
    necessary-monotone (rule-22 h) = rule-22 (implies _ _ h)
    necessary-monotone (rule-23 f g) = rule-23 (necessary-monotone f) (necessary-monotone g)
    necessary-monotone (rule-24 h) = rule-24 (implies _ _ h)
    necessary-monotone (rule-25 h) = rule-25 (implies _ _ h)
    necessary-monotone (rule-26 h) = rule-26 (implies _ _ h)
    necessary-monotone (rule-27 h k) = rule-27 (implies _ _ h) k
    necessary-monotone (rule-28 h f) = rule-28 h (necessary-monotone f)
    necessary-monotone (rule-29 h) = rule-29 (implies _ _ h)
    necessary-monotone (rule-30 h f) = rule-30 h (necessary-monotone f)
    necessary-monotone (rule-32 f) = rule-32 (necessary-monotone f)

    pub follows_monotone : {k : SetEvidence} {p q : Members} → Follows S Γ k p q → Follows T Γ k p q
    follows_monotone (set_rule-13 {p = p} {q = q} h) = set_rule-13 (within-monotone q p h)
    follows_monotone (set_rule-14 h) = set_rule-14 h
    follows_monotone (set_rule-15 h) = set_rule-15 h
    follows_monotone (set_rule-16 h k f g) =
        set_rule-16 (same-monotone h) (same-monotone k) (follows_monotone f) (follows_monotone g)
    follows_monotone (set_rule-17 h f g) = set_rule-17 (same-monotone h) (follows_monotone f) (follows_monotone g)
    follows_monotone (set_rule-18 h k) = set_rule-18 h k
    follows_monotone (set_rule-19 e h) = set_rule-19 e (same-monotone h)

    pub flow-monotone : {k : FlowEvidence} {p q : Members} {c : Command} → Flow S Γ k p c q → Flow T Γ k p c q
    flow-monotone (rule-1 h) = rule-1 (same-monotone h)
    flow-monotone (rule-2 f g) = rule-2 (flow-monotone f) (flow-monotone g)
    flow-monotone (rule-3 h) = rule-3 (same-monotone h)
    flow-monotone (rule-4 h) = rule-4 (same-monotone h)
    flow-monotone (rule-5 h) = rule-5 (same-monotone h)
    flow-monotone (rule-6 h f g n) = rule-6 (same-monotone h) (flow-monotone f) (flow-monotone g) (necessary-monotone n)
    flow-monotone (rule-7 n f) = rule-7 (follows_monotone n) (flow-monotone f)
    flow-monotone (rule-8 f n) = rule-8 (flow-monotone f) (follows_monotone n)
    flow-monotone (rule-9 h k f g) = rule-9 (same-monotone h) (same-monotone k) (flow-monotone f) (flow-monotone g)
    flow-monotone (rule-10 h k) = rule-10 (same-monotone h) k
    flow-monotone (rule-11 h k n) = rule-11 h k (necessary-monotone n)
    flow-monotone (rule-12 h k f n) = rule-12 (same-monotone h) (same-monotone k) (flow-monotone f) (necessary-monotone n)
    flow-monotone (rule-13 h k f) = rule-13 (same-monotone h) (stands-monotone k) (flow-monotone f)
    flow-monotone (rule-14 h f) = rule-14 h (flow-monotone f)
    flow-monotone (rule-31 e h k) = rule-31 e (same-monotone h) (same-monotone k)

pub flow-by_words : {Γ : Context} {k : FlowEvidence} {p q : Members} {c : Command} → Flow SameByWords Γ k p c q → Flow SamePlain Γ k p c q
flow-by_words f = flow-monotone words-antecedent f
