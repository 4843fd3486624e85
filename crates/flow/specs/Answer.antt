-- The answer of a call, by the outcome of a file, and as one number.
-- Working: `outcome-answer` of proofs/Answers ties it to the verdict, `answer-packed` of proofs/Packed to the number for C. Assumes nothing.
--     answer_from      the answer for an outcome, without its places
--     packed_answer    an answer as one number
--     SmallAnswer     its numbers are small enough for 32 bits
use Rattle.std.specs.Prelude.{ℕ, ◌+◌, ◌*◌, ◌≤◌, Ok, Err}
use Rattle.context.specs.declared.Refusal.{Refusal}
use Rattle.outcomes.specs.Outcome.{Outcome}
use Rattle.flow.specs.Checked.{Verdict}

abbrev pub answer_from : Outcome → Verdict
answer_from (Ok a) = Ok a.count
answer_from (Err x) = Err x

abbrev pub packed_answer : Verdict → ℕ
packed_answer (Ok n) = n
packed_answer (Err x) = x.number * 65536 + x.place

-- 19 is the last number of a refusal by these calls
abbrev pub SmallAnswer : Verdict → Type 0
SmallAnswer (Ok n) = n ≤ 8192
SmallAnswer (Err x) = (x.number ≤ 19) × (x.place ≤ 8192)
