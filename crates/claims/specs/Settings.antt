-- Request [6] of document 02: the old values give the old answers, and what raising the settings may change.
-- Trusted. Assumes nothing.
--     OldAnswers     document 01's limits give what they gave before there was a refusal 19
--     Raises         settings in range, each at least another's
--     any_count       limits with none on the members of a set
--     Stays          a refusal that is not 4, 9 or the 5 of a set's count
--     OverCount      at a place stands 32:m with m over the most members
--     Raised         what raised settings leave as it was, of a file that is read or judged
--     RunRaised      .. and of one that is run
use Rattle.std.specs.Prelude.{◌≡◌, true, List, ◌⊎◌, ℕ, ◌<◌, ◌≤◌}
use Rattle.rules.specs.Context.{Limits, standard, within_ranges}
use Rattle.rules.specs.Judge.{accepted, refused}
use Rattle.layout.specs.Bytes.{words_of, kind_at, payload_at, payloads}
use Rattle.layout.specs.Reading.{read, fault}
use Rattle.layout.specs.File.{File, bytes_read, file_of}
use Rattle.layout.specs.Verdict.{judged, verdict_of}
use Rattle.execution.specs.Lent.{Lent}
use Rattle.execution.specs.Ran.{run_of}

-- `bytes_read` has no refusal 19, and what follows a reading is as it was
pub record OldAnswers (bytes : List ℕ) : Type 0 where
  pub reading : file_of standard bytes ≡ bytes_read standard bytes
  pub answer : verdict_of standard bytes ≡ judged standard (bytes_read standard bytes)

pub record Raises (low high : Limits) : Type 0 where
  pub low-within : within_ranges low ≡ true
  pub high-within : within_ranges high ≡ true
  pub comparisons : low.comparisons ≤ high.comparisons
  pub depth : low.depth ≤ high.depth
  pub members : low.members ≤ high.members

-- every payload is below `payloads`
abbrev pub any_count : Limits → Limits
any_count limits = record { comparisons = limits.comparisons; depth = limits.depth; members = payloads }

-- a 5 is not that of a set's count if it is there whatever a set's count may be
pub record Stays (limits : Limits) (bytes : List ℕ) (number place : ℕ) : Type 0 where
  pub not-depth : number ≡ 4 → ⊥
  pub not-comparisons : number ≡ 9 → ⊥
  pub not-count : number ≡ 5 → bytes_read (any_count limits) bytes ≡ fault 5 place

abbrev pub OverCount : Limits → List ℕ → ℕ → Type 0
OverCount limits file place = (kind_at file place ≡ 32) × (limits.members < payload_at file place)

pub record Raised (limits : Limits) (bytes : List ℕ) : Type 0 where
  -- no acceptance becomes a refusal, and its count stays
  pub accepted-still : (high : Limits) → Raises limits high → (n : ℕ) → verdict_of limits bytes ≡ accepted n →
      verdict_of high bytes ≡ accepted n
  -- no refusal changes but 4, 9 and the 5 of a set's count
  pub refused-still : (high : Limits) → Raises limits high → (k p : ℕ) → verdict_of limits bytes ≡ refused k p → Stays limits bytes k p →
      verdict_of high bytes ≡ refused k p
  -- the 5 of a set's count is at such a word
  pub count : (p : ℕ) → verdict_of limits bytes ≡ refused 5 p →
      (bytes_read (any_count limits) bytes ≡ fault 5 p) ⊎ OverCount limits (words_of bytes) p
  -- the same of reading, which the runner does as well
  pub read-still : (high : Limits) → Raises limits high → (f : File) (p : ℕ) → file_of limits bytes ≡ read f p → file_of high bytes ≡ read f p
  pub unread-still : (high : Limits) → Raises limits high → (k p : ℕ) → file_of limits bytes ≡ fault k p → Stays limits bytes k p →
      file_of high bytes ≡ fault k p

pub record RunRaised (limits : Limits) (bytes : List ℕ) (budget : ℕ) (m : Lent) : Type 0 where
  -- of a file that is read the answer, the steps and the store stay
  pub run-still : (high : Limits) → Raises limits high → (f : File) (p : ℕ) → file_of limits bytes ≡ read f p →
      run_of high bytes budget m ≡ run_of limits bytes budget m
  pub unread-still : (high : Limits) → Raises limits high → (k p : ℕ) → file_of limits bytes ≡ fault k p → Stays limits bytes k p →
      run_of high bytes budget m ≡ run_of limits bytes budget m
