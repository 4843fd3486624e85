-- The children of an evidence word whose conditions pass, judged one after the other.
-- Working: `judged-passed`, `going_start`, `going_step` and `going_end` of proofs/Going tie it to the verdict of the word
-- that has the children. Assumes nothing.
--     CanChild, GoalLow    what the goal of a child is asked for under: places of a small file, and a number that a child has
--     CanGo, Goes          what judging the children asks for and promises
use Rattle.std.specs.Prelude.{List, ℕ, suc, ◌<◌, ◌≤◌, length, Ok}
use Rattle.rules.specs.Context.{Context}
use Rattle.goals.specs.declared.Goal.{Goal}
use Rattle.goals.specs.declared.Goal.TheVariants.{Flow, Set, Pre}
use Rattle.goals.specs.Children.{children_at}
use Rattle.goals.specs.Goals.{StepOf, Answer, CanJudge, JudgedOf}

-- places of a file
abbrev pub GoalLow : List ℕ → Goal → Type 0
GoalLow file (Flow p c q) = (p < length file) × (c < length file) × (q < length file)
GoalLow file (Set p q) = (p < length file) × (q < length file)
GoalLow file (Pre f c g) = (f < length file) × (c < length file) × (g < length file)

pub record CanChild (file ends : List ℕ) (goal : Goal) (rule at k : ℕ) : Type 0 where
  pub size : length file ≤ 8192
  pub low : GoalLow file goal
  pub place : at < length file
  pub some : k < length (children_at file ends goal rule at)

pub record CanGo (file ends : List ℕ) (Γ : Context) (goal : Goal) (at left : ℕ) : Type 0 where
  pub can : CanJudge file ends Γ goal at (suc left)
  pub passed : StepOf file ends Γ goal at (Ok tt)

abbrev pub Goes : List ℕ → List ℕ → Context → Goal → ℕ → ℕ → Answer → Type 0
Goes file ends Γ goal at left r = JudgedOf file ends Γ goal at (suc left) r
