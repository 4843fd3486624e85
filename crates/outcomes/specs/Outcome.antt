-- What refusals 1 to 9 and 16 leave of a file, with the places of its main program's parts.
-- Working: `outcome-answer` of flow/proofs/Answers and `accepted-at` of flow/proofs/Parts tie it to the layout's verdict, `masks-checked` of
-- flow/proofs/MasksAfter to the masks.
-- Assumes nothing.
--     Outcome                  an accepted file, or the refusal
--     with_places, outcome_of    a verdict with places; of what was read
--     stored_where              masks stored where there is room for them
--     WordsDone, OutcomeDone   the outcome, and the lent numbers afterwards; of words, of bytes
--     WithinLimits             limits that the code can serve
--     FitsRoom                 a file's words are not over a number
--     TableFits                so many numbers, at most those for 8,192 words, are room for the table of so many words
use Rattle.std.specs.Prelude.{◌≡◌, false, cond, List, ℕ, ◌+◌, ◌*◌, ◌/◌, ◌≤◌, ltb, length, Result, Ok, Err}
use Rattle.rules.specs.Context.{Limits}
use Rattle.rules.specs.Judge.{Verdict, accepted, refused}
use Rattle.layout.specs.Bytes.{words_of, word_count}
use Rattle.layout.specs.Reading.{Reading, read, fault}
use Rattle.layout.specs.File.{File, bad_length, words_read, bytes_read}
use Rattle.layout.specs.Verdict.{judged}
use Rattle.masks.specs.WithMasks.{stored_if}
use Rattle.context.specs.Contexts.{refusal}
use Rattle.context.specs.declared.Context.{Context}
use Rattle.reader.specs.Program.{places}
use Rattle.reader.specs.declared.Places.{Places}
use Rattle.context.specs.declared.Refusal.{Refusal}
use Rattle.outcomes.specs.declared.Accepted.{Accepted}

-- what is known of an accepted file, or the refusal
abbrev pub Outcome : Type 0
Outcome = Result Accepted Refusal

abbrev pub with_places : Verdict → Places → Outcome
with_places (accepted n) s = Ok (record { count = n; places = s })
with_places (refused k i) s = Err (refusal k i)

abbrev pub outcome_of : Limits → Reading File → Outcome
outcome_of limits (read f p) =
    with_places (judged limits (read f p))
    (places f.main.start f.main.pre_at f.main.post_at f.main.evidence_at p)
outcome_of limits (fault n p) = Err (refusal n p)

-- where too few numbers are lent, none is changed
abbrev pub stored_where : Limits → List ℕ → Reading File → List ℕ → List ℕ
stored_where limits file x lent = cond (ltb (length lent) (word_count file)) lent (stored_if limits file x lent)

pub record WordsDone (limits : Limits) (file lent : List ℕ) (r : Outcome) (left : List ℕ) : Type 0 where
  pub outcome : r ≡ outcome_of limits (words_read limits file)
  pub masks : left ≡ stored_where limits file (words_read limits file) lent

pub record OutcomeDone (limits : Limits) (bytes lent : List ℕ) (r : Outcome) (left : List ℕ) : Type 0 where
  pub outcome : r ≡ outcome_of limits (bytes_read limits bytes)
  pub masks : left ≡ stored_where limits (words_of bytes) (bytes_read limits bytes) lent

pub record WithinLimits (x : Context) : Type 0 where
  pub few : x.comparisons ≤ 16
  pub low : x.depth ≤ 256

-- a byte count that is good is not over that of n words
pub record FitsRoom (bytes : List ℕ) (n : ℕ) (x : Context) : Type 0 where
  pub fits : bad_length bytes ≡ false → length bytes ≤ 4 * n
  pub within : WithinLimits x

-- ends, masks of blocks, starts of 17 programs and masks of 16 procedures
abbrev pub TableFits : ℕ → ℕ → Type 0
TableFits words numbers = (words + 2 * (words / 32) + 49 ≤ numbers) × (numbers ≤ 8753)
