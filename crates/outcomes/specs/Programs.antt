-- The programs of a file, judged one after the other (document 01, "Judging order" 8 and 9; document 02, request [3]).
-- Working: `judged-at` of proofs/ProgramGoal ties it to the judge, and `going_start`, `going_step` and `main-accepted` of
-- proofs/FilePrograms to `judge_programs`. Assumes nothing.
--     context_at                        what program i is judged under: the procedures before it
--     ProgramAt                        program i stands, and its calls hold the bodies of these
--     CanJudgeAt, JudgedAt             what judging it asks for; its verdict
--     CanJudgePrograms, judged_file     what judging all programs asks for; the verdict of what was read
--     CanJudgeFile                     the same with the places of the main program
use Rattle.std.specs.Prelude.{◌≡◌, List, ℕ, ◌≤◌, length, Ok, Err}
use Rattle.rules.specs.Context as rules
use Rattle.rules.specs.Context.{Limits, alone}
use Rattle.rules.specs.Resolved.{Resolved, Carried}
use Rattle.layout.specs.Reading.{Reading, read, fault}
use Rattle.layout.specs.Program.{Program}
use Rattle.layout.specs.File.{File, words_read}
use Rattle.layout.specs.FileWords.{ProgramStands}
use Rattle.layout.specs.Before.{context_before}
use Rattle.layout.specs.Verdict.{judge_program, judged}
use Rattle.ends.specs.Ends.{EndsOf}
use Rattle.ends.specs.Procedures.{start_at, Procedures}
use Rattle.context.specs.Contexts.{limits_of, refusal}
use Rattle.context.specs.declared.Context.{Context}
use Rattle.reader.specs.File.{places_of}
use Rattle.reader.specs.declared.Places.{Places}
use Rattle.file.specs.Found.{KnownAt}
use Rattle.goals.specs.Goals.{Answer, judged_of}
use Rattle.outcomes.specs.Outcome.{WithinLimits}

abbrev pub judged_file : Limits → Reading File → Answer
judged_file limits (read f p) = judged_of (judged limits (read f p)) p
judged_file limits (fault n p) = Err (refusal n p)

abbrev pub context_at : Context → List ℕ → ℕ → rules.Context
context_at x file i = context_before (alone (limits_of x)) file i 2

module _ (file ends : List ℕ) (x : Context) where
  pub record ProgramAt (i : ℕ) (g : Program) : Type 0 where
    pub start : start_at file ends i ≡ g.start
    pub stands : ProgramStands (context_at x file i) file g
    pub resolved : Resolved (context_at x file i).procedures g.command
    pub carried : Carried (context_at x file i).procedures g.evidence

  pub record CanJudgeAt (i : ℕ) : Type 0 where
    pub size : length file ≤ 8192
    pub within : WithinLimits x
    pub ends_of : EndsOf file ends
    pub low : i ≤ 16
    pub procedures : Procedures file ends (context_at x file i)
    pub program : Program
    pub there : ProgramAt i program

  pub record JudgedAt (i : ℕ) (r : Answer) : Type 0 where
    pub judged : (g : Program) → ProgramAt i g → r ≡ judged_of (judge_program (context_at x file i) g) g.past

  -- of words that 1 to 7 and 16 let pass, with the table filled for them
  pub record CanJudgePrograms : Type 0 where
    pub size : length file ≤ 8192
    pub within : WithinLimits x
    pub ends_of : EndsOf file ends
    pub contents : File
    pub end : ℕ
    pub was_read : words_read (limits_of x) file ≡ read contents end
    pub known : KnownAt (limits_of x) file ends contents

  pub record CanJudgeFile (s : Places) : Type 0 where
    pub programs : CanJudgePrograms
    pub found : Ok s ≡ places_of (words_read (limits_of x) file)
