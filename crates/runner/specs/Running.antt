-- The runner over words, from refusal 1 to the run.
-- Working: `run_of` of proofs/Files and `packed-run` of proofs/Small tie it to the definition's `run_of`. Assumes
-- nothing.
--     ran_at, refused_at         the code's answer and the store then, as the definition's; a refusal before the run
--     ran_by, RanBy             by what reading gives; what the functions promise
--     RanFile                  what a run of words comes to
--     CanRunCopied             a run that refusals 10 and 11 let pass
--     SmallRan, CanPack        an answer that can be packed
use Rattle.std.specs.Prelude.{◌≡◌, List, ℕ, ◌≤◌, length, Err}
use Rattle.layout.specs.Reading.{Reading, read, fault}
use Rattle.layout.specs.File.{File}
use Rattle.execution.specs.Lent.{Lent}
use Rattle.execution.specs.Ran as definition
use Rattle.execution.specs.Ran.{not_run, body_place, run_file}
use Rattle.context.specs.Contexts.{refusal}
use Rattle.heads.specs.Stands.{Runnable, CommandStands}
use Rattle.runner.specs.Ran.{answer_meant}
use Rattle.runner.specs.declared.Ran.{Ran}

abbrev pub ran_at : Ran → Lent → definition.Ran
ran_at r m = record { answer = answer_meant r.answer; steps = r.steps; store = m }

abbrev pub refused_at : ℕ → ℕ → Ran
refused_at k p = record { answer = Err (refusal k p); steps = 0 }

abbrev pub ran_by : Reading File → ℕ → Lent → definition.Ran
ran_by (read f p) budget m = run_file f budget m
ran_by (fault k p) budget m = not_run k p m

pub record RanBy (x : Reading File) (budget : ℕ) (m : Lent) (r : Ran) (m' : Lent) : Type 0 where
  pub is : ran_at r m' ≡ ran_by x budget m

-- what a run of words comes to, whatever file they are of
pub record RanFile (w ends : List ℕ) (start budget : ℕ) (m : Lent) (r : Ran) (m' : Lent) : Type 0 where
  pub is : (f : File) (p : ℕ) (x : Runnable w ends f.main.command start p) → x.body_at ≡ body_place f → f.main.start ≡ start →
      ran_at r m' ≡ run_file f budget m

-- 10 and 11 are not due
pub record CanRunCopied (w ends : List ℕ) (start : ℕ) (m : Lent) (budget : ℕ) : Type 0 where
  pub command : CommandStands w ends start
  pub few : budget ≤ 1000000
  pub scalars-sized : length m.scalars ≡ 32
  pub values-sized : length m.values ≡ 2048

-- the steps and the place of an answer are small, so that it can be packed
abbrev pub SmallAnswer : definition.Answer → Type 0
SmallAnswer definition.done = Unit {0}
SmallAnswer (definition.refused k p) = p ≤ 8192

pub record SmallRan (r : definition.Ran) : Type 0 where
  pub few : r.steps ≤ 1000000
  pub near : SmallAnswer r.answer

pub record CanPack (r : Ran) : Type 0 where
  pub few : r.steps ≤ 1000000
  pub near : SmallAnswer (answer_meant r.answer)
