-- Evidence judged in file order (document 01, "Judging order" 8 and 9). Each clause is a rule of "Rules" or of request [3]: its conditions
-- as they are tried, and its children against their goals.
-- Trusted. Assumes nothing.
--     Verdict                         accepted, with a count of evidence words; or refused, with number and place
--     _also_                          one after the other: children, and programs of a file
--     RuleStep, misfit, childless     what a rule comes to: its conditions' result, and its children's verdict
--     one_more, judge_word              an evidence word by what its rule comes to: the one place of 8 and 9
--     Judge, GivenItem, GivenItems    how evidence is judged against a goal; what a rule is given of its parts
--     Takes, applied                  a rule as what takes these one after the other
--     Given                           what any tree gives to the rule above it
--     pre_rule, set_rule, flow_rule      the rules
--     judge                           evidence against a goal
use Rattle.std.specs.Prelude.{true, List, [], ◌∷◌, ◌++◌, ℕ, suc, ◌+◌}
use Rattle.language.specs.Syntax.{Boolean, Expr, truth, and, or, neg, to_scalar, to_array, Command}
use Rattle.language.specs.Runs.{meaning}
use Rattle.language.specs.Modifies.{identifiers}
use Rattle.rules.specs.Words.{command_words, same_words}
use Rattle.rules.specs.Assertion.{Members, member, one}
use Rattle.rules.specs.Context.{Context, item_at}
use Rattle.rules.specs.Replace.{replacement, replace, replace_members}
use Rattle.rules.specs.Sets.{under, without, operands, set_identifiers}
use Rattle.rules.specs.Tests.{same_antecedent, same_consequent, stands, within, same, unmodified, is_empty}
use Rattle.rules.specs.Evidence as evidence
use Rattle.rules.specs.Evidence.{Judgement, Item, assertion_item, command_item, members_item, child_item, Rule}
use Rattle.rules.specs.Evidence.{Standing, item, items, Tree, by, assertion, command, members, child, done, ◌&◌}
use Rattle.rules.specs.Evidence.{flow1, flow2, flow3, flow4, flow5, flow6}
use Rattle.rules.specs.Evidence.{flow7, flow8, flow9, flow10, flow11, flow12, flow13, flow14, flow31, set13, set14, set15}
use Rattle.rules.specs.Evidence.{set16, set17, set18, set19, pre20, pre21, pre22, pre23, pre24, pre25, pre26}
use Rattle.rules.specs.Evidence.{pre27, pre28, pre29, pre30, pre32}
use Rattle.rules.specs.Condition.{Result, passes, fails, too_large, test, ◌then◌, implication, each_implies_false}
use Rattle.rules.specs.Condition.{on_skip, on_sequence, on_assert, on_scalar, on_array, on_if, on_while, on_for, on_call}
use Rattle.rules.specs.Condition.{on_empty, on_one, on_some}

pub data Verdict : Type 0 where
  accepted : ℕ → Verdict
  refused : ℕ → ℕ → Verdict

infixr 15 ◌also◌
unfoldable pub ◌also◌ : Verdict → Verdict → Verdict
accepted m also accepted n = accepted (m + n)
accepted m also refused k i = refused k i
refused k i also v = refused k i

pub data RuleStep : Type 0 where
  step : Result → Verdict → RuleStep

-- the command or a set does not have the form that the rule asks for
abbrev pub misfit : RuleStep
misfit = step fails (accepted 0)

-- a rule with no children
abbrev pub childless : Result → RuleStep
childless r = step r (accepted 0)

-- the count with one word more
unfoldable pub one_more : Verdict → Verdict
one_more (accepted n) = accepted (suc n)
one_more (refused k i) = refused k i

-- an evidence word at place i
unfoldable pub judge_word : ℕ → RuleStep → Verdict
judge_word i (step passes v) = one_more v
judge_word i (step fails v) = refused 8 i
judge_word i (step too_large v) = refused 9 i

-- goals: (P, C, Q) of flow, (P, Q) of sets, (φ, C, φ') of preconditions
abbrev pub Judge : Judgement → Type 0
Judge evidence.flow = Members → Command → Members → Verdict
Judge evidence.implication = Members → Members → Verdict
Judge evidence.precondition = Expr Boolean → Command → Expr Boolean → Verdict

abbrev pub GivenItem : Item → Type 0
GivenItem assertion_item = Expr Boolean
GivenItem command_item = Command
GivenItem members_item = Members
GivenItem (child_item j) = Judge j

abbrev pub GivenItems : List Item → Type 0
GivenItems [] = Unit {0}
GivenItems (x ∷ l) = GivenItem x × GivenItems l

-- what takes these, and gives an R
abbrev pub Takes : List Item → Type 0 → Type 0
Takes [] R = R
Takes (x ∷ l) R = GivenItem x → Takes l R

abbrev pub applied : {R : Type 0} (l : List Item) → Takes l R → GivenItems l → R
applied [] f g = f
applied (x ∷ l) f g = applied l (f g.0) g.1

abbrev pub Given : Standing → Type 0
Given (evidence.evidence j) = Judge j
Given (item x) = GivenItem x
Given (items l) = GivenItems l

unfoldable pub pre_rule :
    Context → {n : ℕ} {l : List Item} → Rule evidence.precondition n l → Takes l (Expr Boolean → Command → Expr Boolean → RuleStep)
pre_rule Γ pre20 = λ φ₁ φ₂ k l φ c φ'. on_if c misfit λ b c₁ c₂.
    step (test (same_antecedent φ (or (and φ₁ b) (and φ₂ (neg b)))))
    (k φ₁ c₁ φ' also l φ₂ c₂ φ')
pre_rule Γ pre21 = λ φ₀ k φ c φ'. on_while c misfit λ b c₁.
    step (implication Γ (and φ₀ b) φ then implication Γ (and φ' (neg b)) φ) (k φ₀ c₁ φ)
pre_rule Γ pre22 = λ φ c φ'. on_skip c misfit (childless (test (same_antecedent φ φ')))
pre_rule Γ pre23 = λ φ₁ k l φ c φ'. on_sequence c misfit λ c₁ c₂.
    step passes (k φ c₁ φ₁ also l φ₁ c₂ φ')
pre_rule Γ pre24 = λ φ c φ'. on_scalar c misfit λ x e.
    childless (test (same_antecedent φ (replace φ' (replacement (to_scalar x e)))))
pre_rule Γ pre25 = λ φ c φ'. on_array c misfit λ a e.
    childless (test (same_antecedent φ (replace φ' (replacement (to_array a e)))))
pre_rule Γ pre26 = λ φ c φ'. on_assert c misfit λ b. childless (test (same_antecedent φ (and φ' b)))
pre_rule Γ pre27 = λ φ c φ'. childless (test (same_antecedent φ φ') then test (unmodified (identifiers φ) c))
pre_rule Γ pre28 = λ φ₁ k φ c φ'. step (implication Γ φ₁ φ) (k φ₁ c φ')
pre_rule Γ pre29 = λ φ c φ'. childless (test (same_antecedent φ (truth true)))
pre_rule Γ pre30 = λ d k φ c φ'. on_for c misfit λ q m c₁.
    step (test (same_words (command_words d) (command_words (meaning q m c₁)))) (k φ d φ')
pre_rule Γ pre32 = λ k φ c φ'. on_call c misfit λ n d. step passes (k φ d φ')

unfoldable pub set_rule : Context → {n : ℕ} {l : List Item} → Rule evidence.implication n l → Takes l (Members → Members → RuleStep)
set_rule Γ set13 = λ p q. childless (test (within q p))
set_rule Γ set14 = λ p q. on_empty p misfit (childless (each_implies_false Γ q))
set_rule Γ set15 = λ p q. on_empty p misfit (on_one q misfit λ n.
    childless (test (is_empty (identifiers n.consequent))))
set_rule Γ set16 = λ s s' t t' k l p q.
    step (test (same p (s ++ t)) then test (same q (s' ++ t'))) (k s s' also l t t')
set_rule Γ set17 = λ s s' t k l p q.
    step (test (same p (without t s' ++ s))) (k s s' also l t q)
set_rule Γ set18 = λ p q. on_one p misfit λ m. on_one q misfit λ n.
    childless (test (same_consequent m.consequent n.consequent)
    then implication Γ n.antecedent m.antecedent)
set_rule Γ set19 = λ p q. on_one q misfit λ n.
    on_some (operands n.antecedent n.consequent) misfit λ r. childless (test (same p r))

unfoldable pub flow_rule :
    Context → {n : ℕ} {l : List Item} → Rule evidence.flow n l → Takes l (Members → Command → Members → RuleStep)
flow_rule Γ flow1 = λ p c q. on_skip c misfit (childless (test (same p q)))
flow_rule Γ flow2 = λ m k l p c q. on_sequence c misfit λ c₁ c₂.
    step passes (k p c₁ m also l m c₂ q)
flow_rule Γ flow3 = λ p c q. on_scalar c misfit λ x e.
    childless (test (same p (replace_members q (replacement (to_scalar x e)))))
flow_rule Γ flow4 = λ p c q. on_array c misfit λ a e.
    childless (test (same p (replace_members q (replacement (to_array a e)))))
flow_rule Γ flow5 = λ p c q. on_assert c misfit λ b. childless (test (same p (under q b)))
flow_rule Γ flow6 = λ s t φ₀ k l n p c q. on_if c misfit λ b c₁ c₂. on_one q misfit λ m.
    step (test (same p (under s b ++ (under t (neg b) ++ one φ₀ b))))
    (k s c₁ q also l t c₂ q also n φ₀ c m.antecedent)
flow_rule Γ flow7 = λ m n k p c q. step passes (n p m also k m c q)
flow_rule Γ flow8 = λ m k n p c q. step passes (k p c m also n m q)
flow_rule Γ flow9 = λ s s' t t' k l p c q.
    step (test (same p (s ++ t)) then test (same q (s' ++ t')))
    (k s c s' also l t c t')
flow_rule Γ flow10 = λ p c q. childless (test (same p q) then test (unmodified (set_identifiers q) c))
flow_rule Γ flow11 = λ n p c q. on_one p misfit λ m. on_one q misfit λ m'.
    step
    (test (same_consequent m.consequent m'.consequent) then test (unmodified (identifiers m.consequent) c))
    (n m.antecedent c m'.antecedent)
flow_rule Γ flow12 = λ s s' φ φ' k n p c q.
    step (test (same p (under s φ)) then test (same q (under s' φ')))
    (k s c s' also n φ c φ')
flow_rule Γ flow13 = λ k p c q. on_while c misfit λ b c₁.
    step (test (same p q) then test (stands (member (truth true) b) p)) (k p c₁ q)
flow_rule Γ flow14 = λ d k p c q. on_for c misfit λ v m c₁.
    step (test (same_words (command_words d) (command_words (meaning v m c₁)))) (k p d q)
flow_rule Γ flow31 = λ p c q. on_call c misfit λ n d. on_some (item_at Γ.procedures n) misfit λ k.
    childless (test (same p k.pre) then test (same q k.post))

unfoldable pub judge : Context → {s : Standing} → Tree s → Given s
judge Γ (by {j = evidence.flow} {l = l} r i t) = λ p c q. judge_word i (applied l (flow_rule Γ r) (judge Γ t) p c q)
judge Γ (by {j = evidence.implication} {l = l} r i t) = λ p q. judge_word i (applied l (set_rule Γ r) (judge Γ t) p q)
judge Γ (by {j = evidence.precondition} {l = l} r i t) = λ φ c φ'. judge_word i (applied l (pre_rule Γ r) (judge Γ t) φ c φ')
judge Γ (assertion φ) = φ
judge Γ (command c) = c
judge Γ (members p) = p
judge Γ (child k) = judge Γ k
judge Γ done = tt
judge Γ (x & t) = (judge Γ x, judge Γ t)
