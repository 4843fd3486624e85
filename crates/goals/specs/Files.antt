-- What rules and judging ask for and promise of a file with what was worked out of it.
-- Working: each is a contract of Goals, of the words, the list of ends and the context of the file: `judged-failed` and `judged-passed` of
-- judge/proofs/Going say what these come to. Assumes nothing.
--     context_for                    the context that a file is judged under
--     CanStepIn, CanTryIn, StepIn    the contract of a rule
--     CanJudgeIn, JudgedIn           a contract for evidence judged
use Rattle.std.specs.Prelude.{ℕ}
use Rattle.rules.specs.Context.{Context}
use Rattle.context.specs.Contexts.{context_in}
use Rattle.implication.specs.Sides.{Condition}
use Rattle.goals.specs.declared.Goal.{Goal}
use Rattle.goals.specs.declared.file.File.{File}
use Rattle.goals.specs.Goals.{CanStep, CanTry, StepOf, Answer, CanJudge, JudgedOf}

module _ (file : File) where
  abbrev pub context_for : Context
  context_for = context_in file.context file.words.now

  abbrev pub CanStepIn : Goal → ℕ → Type 0
  CanStepIn goal at = CanStep file.words.now file.ends.now context_for goal at

  abbrev pub CanTryIn : ℕ → Goal → ℕ → Type 0
  CanTryIn rule goal at = CanTry file.words.now file.ends.now context_for rule goal at

  abbrev pub StepIn : Goal → ℕ → Condition → Type 0
  StepIn goal at r = StepOf file.words.now file.ends.now context_for goal at r

  abbrev pub CanJudgeIn : Goal → ℕ → ℕ → Type 0
  CanJudgeIn goal at left = CanJudge file.words.now file.ends.now context_for goal at left

  abbrev pub JudgedIn : Goal → ℕ → ℕ → Answer → Type 0
  JudgedIn goal at left r = JudgedOf file.words.now file.ends.now context_for goal at left r
