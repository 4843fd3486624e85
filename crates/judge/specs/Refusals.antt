-- The refusal of an evidence word whose conditions do not pass (document 01, "Judging order" 8 and 9).
-- Working: `judged-failed` of proofs/Going says that the verdict of the word is that refusal. Assumes nothing.
--     refusal_of    by what the conditions come to, at the word's place
use Rattle.std.specs.Prelude.{ℕ}
use Rattle.context.specs.Contexts.{refusal}
use Rattle.context.specs.declared.Refusal.{Refusal}
use Rattle.implication.specs.declared.Failure.{Failure}
use Rattle.implication.specs.declared.Failure.TheVariants.{Fails, TooLarge}

abbrev pub refusal_of : Failure → ℕ → Refusal
refusal_of Fails at = refusal 8 at
refusal_of TooLarge at = refusal 9 at
