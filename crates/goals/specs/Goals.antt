-- Goals by places, and the goals and evidence that stand there as trees; the contract of every rule.
-- Working: `can-judge` and `judged-at` of outcomes/proofs/ProgramGoal tie it to what refusals 8 and 9 leave of a program;
-- what is judged is an equation with `judge`. Assumes nothing.
--     TreeGoal, verdict, verdicts    evidence with the goal that it is judged against; its verdict; of several
--     tree_step, tree_items            what the rule of its word comes to; what stands after that word
--     GoalStands, GoalsStand         a goal by places, and its evidence from a place up to another; several
--     ChildrenOf                     the goals of the children
--     CanStep, CanTry, StepOf        the contract of a rule: what it asks for and what it promises
--     CanJudge, JudgedOf             a contract for evidence judged
use Rattle.std.specs.Prelude.{◌≡◌, List, [], ◌∷◌, ℕ, suc, ◌+◌, ◌≤◌, length, Result, Ok, Err}
use Rattle.language.specs.Syntax.{Boolean, Expr, Command}
use Rattle.rules.specs.Assertion.{Members}
use Rattle.rules.specs.Context.{Context}
use Rattle.rules.specs.Evidence.{Item, by, FlowEvidence, SetEvidence, PreEvidence}
use Rattle.rules.specs.Judge.{Verdict, accepted, refused, ◌also◌, RuleStep, step, applied, flow_rule, set_rule, pre_rule, judge}
use Rattle.layout.specs.Bytes.{payload_at}
use Rattle.ends.specs.Ends.{EndsOf}
use Rattle.implication.specs.Sides.{Condition, result_of}
use Rattle.goals.specs.declared.Goal.{Goal}
use Rattle.goals.specs.declared.Goal.TheVariants.{Flow, Set, Pre}
use Rattle.goals.specs.declared.Judged.{Judged}
use Rattle.context.specs.declared.Refusal.{Refusal}
use Rattle.ends.specs.Places.{WrittenAt, SetAt}
use Rattle.ends.specs.Procedures.{Procedures}
use Rattle.goals.specs.Children.{children_at, past_carried}
use Rattle.goals.specs.Resolved.{ResolvedAt, EvidenceAt}

pub data TreeGoal : Type 0 where
  flow : FlowEvidence → Members → Command → Members → TreeGoal
  set : SetEvidence → Members → Members → TreeGoal
  pre : PreEvidence → Expr Boolean → Command → Expr Boolean → TreeGoal

abbrev pub verdict : Context → TreeGoal → Verdict
verdict Γ (flow k p c q) = judge Γ k p c q
verdict Γ (set k p q) = judge Γ k p q
verdict Γ (pre k φ c φ') = judge Γ k φ c φ'

abbrev pub verdicts : Context → List TreeGoal → Verdict
verdicts Γ [] = accepted 0
verdicts Γ (g ∷ l) = verdict Γ g also verdicts Γ l

abbrev pub tree_step : Context → TreeGoal → RuleStep
tree_step Γ (flow (by {l = l} r i t) p c q) = applied l (flow_rule Γ r) (judge Γ t) p c q
tree_step Γ (set (by {l = l} r i t) p q) = applied l (set_rule Γ r) (judge Γ t) p q
tree_step Γ (pre (by {l = l} r i t) φ c φ') = applied l (pre_rule Γ r) (judge Γ t) φ c φ'

abbrev pub tree_items : TreeGoal → List Item
tree_items (flow (by {l = l} r i t) p c q) = l
tree_items (set (by {l = l} r i t) p q) = l
tree_items (pre (by {l = l} r i t) φ c φ') = l

module _ (Γ : Context) (file ends : List ℕ) where
  -- the goal's trees stand at its places, and the evidence from `at` up to `end`, with d levels left
  pub data GoalStands : Goal → TreeGoal → ℕ → ℕ → ℕ → Type 0 where
    flow-stands : {k : FlowEvidence} {p q : Members} {c : Command} {i j l d at end : ℕ} →
        SetAt file ends Γ p i → ResolvedAt file ends Γ c j → SetAt file ends Γ q l →
        EvidenceAt Γ file d at k end → GoalStands (Flow i j l) (flow k p c q) d at end
    set-stands : {k : SetEvidence} {p q : Members} {i j d at end : ℕ} →
        SetAt file ends Γ p i → SetAt file ends Γ q j →
        EvidenceAt Γ file d at k end → GoalStands (Set i j) (set k p q) d at end
    pre-stands : {k : PreEvidence} {φ φ' : Expr Boolean} {c : Command} {i j l d at end : ℕ} →
        WrittenAt file ends φ i → ResolvedAt file ends Γ c j → WrittenAt file ends φ' l →
        EvidenceAt Γ file d at k end → GoalStands (Pre i j l) (pre k φ c φ') d at end

  -- goals whose evidence stands one after the other
  abbrev pub GoalsStand : List Goal → List TreeGoal → ℕ → ℕ → ℕ → Type 0
  GoalsStand [] [] d at end = at ≡ end
  GoalsStand [] (t ∷ m) d at end = ⊥
  GoalsStand (a ∷ l) [] d at end = ⊥
  GoalsStand (a ∷ l) (t ∷ m) d at end = (q : ℕ) × GoalStands a t d at q × GoalsStand l m d q end

  -- the children whose verdict together is v
  pub record ChildrenOf (v : Verdict) (goals : List Goal) (d at end : ℕ) : Type 0 where
    pub trees : List TreeGoal
    pub stand : GoalsStand goals trees d at end
    pub judged : v ≡ verdicts Γ trees

  -- what a rule comes to, s, as the code has it: the result of its conditions; where they pass, its children
  pub record ComesTo (s : RuleStep) (goals : List Goal) (d next end : ℕ) (r : Condition) : Type 0 where
    pub children : Verdict
    pub is : s ≡ step (result_of r) children
    pub stand : r ≡ Ok tt → ChildrenOf children goals d next end

-- what a rule asks for: the goal stands, with its evidence; the ends and the procedures are known; the file is small
pub record CanStep (file ends : List ℕ) (Γ : Context) (goal : Goal) (at : ℕ) : Type 0 where
  pub ends_of : EndsOf file ends
  pub procedures : Procedures file ends Γ
  pub size : length file ≤ 8192
  pub few : Γ.limits.comparisons ≤ 16
  pub tree : TreeGoal
  pub levels : ℕ
  pub low : levels ≤ 256
  pub end : ℕ
  pub goal-stands : GoalStands Γ file ends goal tree (suc levels) at end

-- the same of one rule, by its number
pub record CanTry (file ends : List ℕ) (Γ : Context) (rule : ℕ) (goal : Goal) (at : ℕ) : Type 0 where
  pub can : CanStep file ends Γ goal at
  pub rule-is : payload_at file at ≡ rule

-- what a rule promises of its conditions' result r
pub record StepOf (file ends : List ℕ) (Γ : Context) (goal : Goal) (at : ℕ) (r : Condition) : Type 0 where
  pub comes : (g : TreeGoal) (d end : ℕ) → d ≤ 256 → GoalStands Γ file ends goal g (suc d) at end →
      ComesTo Γ file ends (tree_step Γ g) (children_at file ends goal (payload_at file at) at) d
      (past_carried ends (tree_items g) (at + 1)) end r

-- evidence judged as the code answers it: the count of its words and the place past it, or the refusal
abbrev pub Answer : Type 0
Answer = Result Judged Refusal

abbrev pub judged_of : Verdict → ℕ → Answer
judged_of (accepted n) end = Ok (record { count = n; end = end })
judged_of (refused k i) end = Err (record { number = k; place = i })

pub record CanJudge (file ends : List ℕ) (Γ : Context) (goal : Goal) (at left : ℕ) : Type 0 where
  pub ends_of : EndsOf file ends
  pub procedures : Procedures file ends Γ
  pub size : length file ≤ 8192
  pub few : Γ.limits.comparisons ≤ 16
  pub low : left ≤ 256
  pub tree : TreeGoal
  pub end : ℕ
  pub goal-stands : GoalStands Γ file ends goal tree left at end

pub record JudgedOf (file ends : List ℕ) (Γ : Context) (goal : Goal) (at left : ℕ) (r : Answer) : Type 0 where
  pub judged : (g : TreeGoal) (end : ℕ) → GoalStands Γ file ends goal g left at end → r ≡ judged_of (verdict Γ g) end
