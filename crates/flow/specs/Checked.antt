-- What the check on bytes promises under settings (document 01, "Judging order" 1 to 9; document 02, requests [2], [3] and [6]).
-- Trusted. Assumes nothing.
--     Verdict      a call's answer
--     answer_of    the answer for a verdict: the count; or the number and the place
--     Checked     the answer is that of the definition, and demands 2 and 3 and requests [2] and [6] hold of the bytes
use Rattle.std.specs.Prelude.{◌≡◌, List, ℕ, Result, Ok, Err}
use Rattle.rules.specs.Context.{Limits}
use Rattle.rules.specs.Judge as judge
use Rattle.layout.specs.Verdict.{verdict_of}
use Rattle.claims.specs.Check.{Demand2, Demand3}
use Rattle.claims.specs.StillAccepted.{StillAccepted}
use Rattle.claims.specs.Settings.{OldAnswers, Raised}
use Rattle.context.specs.declared.Refusal.{Refusal}

-- the count of evidence words, or the refusal
abbrev pub Verdict : Type 0
Verdict = Result ℕ Refusal

abbrev pub answer_of : judge.Verdict → Verdict
answer_of (judge.accepted n) = Ok n
answer_of (judge.refused k i) = Err (record { number = k; place = i })

pub record Checked (limits : Limits) (bytes : List ℕ) (r : Verdict) : Type 0 where
  pub answer : r ≡ answer_of (verdict_of limits bytes)
  -- accepted exactly when the settings are in range, the file reads and the evidence of each of its programs is a derivation, with the count of
  -- its evidence words
  pub exact : Demand2 limits bytes
  -- accepted only if the main program and each procedure are secure
  pub secure : Demand3 limits bytes
  -- and every file that was accepted before request [2] still is
  pub still-accepted : StillAccepted limits bytes
  -- document 01's limits give the answer from before request [6], and raised settings change no other refusals than it says
  pub old-answers : OldAnswers bytes
  pub raised : Raised limits bytes
