-- The answer of the check, by what refusals 1 to 9 leave of the file.
-- Assumes nothing.
--     exit-err                           what the exit of a `?` returns
--     settings_within                    limits in range
--     outcome-answer                     the answer, by the outcome
--     checked                            what the check promises of it
--     outside-outcome, within-outcome    settings outside their ranges, and within
use mathlib.Core.Path.{◌≡◌, refl, sym, ◌∙◌, ap}
use mathlib.Core.Bool.{true, false}
use mathlib.Core.List.{List}
use Prim.Native.Nat.{ℕ}
use Rattle.rules.specs.Context.{Limits, within_ranges}
use Rattle.rules.specs.Judge as judge
use Rattle.layout.specs.Reading.{Reading, read, fault}
use Rattle.layout.specs.File.{File, bytes_read, file_of}
use Rattle.layout.specs.Verdict.{judged, verdict_of}
use Rattle.claims.proofs.Check.{demand_2, demand_3}
use Rattle.layout.proofs.Settings.{ranges-of, in_ranges, out_of-ranges}
use Rattle.claims.proofs.StillAccepted.{still-accepted}
use Rattle.claims.proofs.Settings.{old-answers, raised}
use Rattle.context.specs.Contexts.{limits_of, Settable, refusal}
use Rattle.context.specs.declared.Context.{Context}
use Rattle.context.specs.declared.Refusal.{Refusal}
use Rattle.reader.specs.Program.{places}
use Rattle.reader.specs.declared.Places.{Places}
use Rattle.outcomes.specs.Outcome.{Outcome, with_places, outcome_of, OutcomeDone, WithinLimits}
use Rattle.std.specs.Prelude.{Result, Ok, Err, IsErrAnd}
use Rattle.flow.specs.Answer.{answer_from}
use Rattle.flow.specs.Checked.{Verdict, answer_of, Checked}

-- what the exit of a `?` returns
pub exit-err : {A E : Type 0} {x : E} {r : Result A E} → IsErrAnd r (λ y. y ≡ x) → r ≡ Err x
exit-err {r = Ok a} h = absurd h
exit-err {r = Err y} h = ap Err h

-- limits in range are small enough
pub settings_within : (context : Context) → Settable context → WithinLimits context
settings_within context h = let r = ranges-of (limits_of context) h in record { few = r.comparisons; low = r.depth }

answer-places : (v : judge.Verdict) (s : Places) → answer_from (with_places v s) ≡ answer_of v
answer-places (judge.accepted n) s = refl
answer-places (judge.refused k i) s = refl

answer-read : (limits : Limits) (x : Reading File) → answer_from (outcome_of limits x) ≡ answer_of (judged limits x)
answer-read limits (read f p) =
    answer-places (judged limits (read f p))
    (places f.main.start f.main.pre_at f.main.post_at f.main.evidence_at p)
answer-read limits (fault n p) = refl

pub outcome-answer : (limits : Limits) (bytes : List ℕ) {q : Outcome} {r : Verdict} →
    q ≡ outcome_of limits (file_of limits bytes) → r ≡ answer_from q → r ≡ answer_of (verdict_of limits bytes)
unfolding verdict_of
outcome-answer limits bytes e h =
    h ∙ ap (λ (z : Outcome). answer_from z) e ∙ answer-read limits (file_of limits bytes)

pub checked : (limits : Limits) (bytes : List ℕ) {q : Outcome} {r : Verdict} → q ≡ outcome_of limits (file_of limits bytes) →
    r ≡ answer_from q → Checked limits bytes r
checked limits bytes e h = record {
  answer = outcome-answer limits bytes e h;
  exact = demand_2 limits bytes;
  secure = demand_3 limits bytes;
  still-accepted = still-accepted limits bytes;
  old-answers = old-answers bytes;
  raised = raised limits bytes;
}

-- ---- refusals by settings
-- 19
pub outside-outcome : (limits : Limits) (bytes : List ℕ) {x : Refusal} → within_ranges limits ≡ false → x ≡ refusal 19 0 →
    Err x ≡ outcome_of limits (file_of limits bytes)
outside-outcome limits bytes h e = ap Err e ∙ sym (ap (outcome_of limits) (out_of-ranges limits bytes h))

pub within-outcome : {low : Limits} (limits : Limits) {bytes lent : List ℕ} {q : Outcome} {left : List ℕ} → low ≡ limits →
    within_ranges limits ≡ true → OutcomeDone low bytes lent q left → q ≡ outcome_of limits (file_of limits bytes)
within-outcome limits {bytes} l h d =
    d.outcome ∙ ap (λ (z : Limits). outcome_of z (bytes_read z bytes)) l ∙ sym (ap (outcome_of limits) (in_ranges limits bytes h))
