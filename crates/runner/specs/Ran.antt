-- What the runner promises under settings (document 01, "Runner" and "Judging order" 1 to 7 and 10 to 15; document 02, requests [1], [3] and
-- [6]): the answer, the steps finished and the store afterwards are those of the definition, and demand 2 and requests [1] and [6] hold of the
-- definition there.
-- Trusted. Assumes nothing.
--     answer_meant    the code's answer, as the definition's
--     RunOf          under the settings, from the lent store m, the answer r and the store m'
use Rattle.std.specs.Prelude.{◌≡◌, List, ℕ, Result, Ok, Err}
use Rattle.rules.specs.Context.{Limits}
use Rattle.execution.specs.Lent.{Lent}
use Rattle.execution.specs.Ran as definition
use Rattle.execution.specs.Ran.{done, refused, run_of}
use Rattle.context.specs.declared.Refusal.{Refusal}
use Rattle.claims.specs.Runner.{Runner}
use Rattle.claims.specs.AsBefore.{AsBefore}
use Rattle.claims.specs.Settings.{OldAnswers, RunRaised}
use Rattle.runner.specs.declared.Ran.{Ran}

abbrev pub answer_meant : {A : Type 0} → Result A Refusal → definition.Answer
answer_meant (Ok a) = done
answer_meant (Err x) = refused x.number x.place

pub record RunOf (limits : Limits) (bytes : List ℕ) (budget : ℕ) (m : Lent) (r : Ran) (m' : Lent) : Type 0 where
  pub answer : answer_meant r.answer ≡ (run_of limits bytes budget m).answer
  pub steps : r.steps ≡ (run_of limits bytes budget m).steps
  pub scalars-left : m'.scalars ≡ (run_of limits bytes budget m).store.scalars
  pub values-left : m'.values ≡ (run_of limits bytes budget m).store.values
  -- the definition ends as the language's, or stops where document 01 with request [1] says and nowhere else
  pub exact : Runner limits bytes budget m
  -- and where both sides of and and or have a value its result is what it was before request [1]
  pub as_before : AsBefore limits bytes budget m
  -- document 01's limits read as before request [6]; raised settings change no run of a file that was read, and no refusal but 4 and the 5 of
  -- a set's count
  pub old-answers : OldAnswers bytes
  pub raised : RunRaised limits bytes budget m
