-- The check with masks (document 02, requests [5] and [6]): its refusals, its answer, and the lent numbers afterwards.
-- Trusted. Assumes nothing.
--     few_numbers      refusal 17: fewer numbers than words, of a file that 1 and 2 let pass
--     read_lent        refusals 19, 1, 2, 17, 3 to 7 and 16, where so many numbers are lent
--     verdict_lent     the answer
--     stored_if        the masks are stored where a file was read
--     masks_after      the lent numbers after the check
use Rattle.std.specs.Prelude.{Bool, true, false, not, ◌&&◌, List, ℕ, ◌+◌, ◌*◌, eqb, ltb, length}
use Rattle.rules.specs.Context.{Limits, within_ranges}
use Rattle.rules.specs.Judge.{Verdict}
use Rattle.layout.specs.Bytes.{words_of, word_count, number_at, payloads}
use Rattle.layout.specs.Reading.{Reading, read, fault}
use Rattle.layout.specs.File.{File, bad_length, bytes_read}
use Rattle.layout.specs.Verdict.{judged}
use Rattle.masks.specs.Masks.{stored}

-- after 2 and before 3
unfoldable pub few_numbers : List ℕ → ℕ → Bool
few_numbers bytes n =
    let file = words_of bytes in
    not (bad_length bytes) && (eqb (number_at file 0) (63 * payloads + word_count file) && ltb n (word_count file))

unfoldable pub read_lent : Limits → List ℕ → ℕ → Reading File
read_lent limits bytes n = elim (within_ranges limits) [
  | true ↦ elim (few_numbers bytes n) [ true ↦ fault 17 0 | false ↦ bytes_read limits bytes ]
  | false ↦ fault 19 0
]

-- but for 17, judging answers as without masks
abbrev pub verdict_lent : Limits → List ℕ → ℕ → Verdict
verdict_lent limits bytes n = judged limits (read_lent limits bytes n)

-- a call refused at reading or as 17 or 19 changes none; 8 and 9 leave them stored
abbrev pub stored_if : Limits → List ℕ → Reading File → List ℕ → List ℕ
stored_if limits file (read f p) lent = stored limits file f lent
stored_if limits file (fault n p) lent = lent

abbrev pub masks_after : Limits → List ℕ → List ℕ → List ℕ
masks_after limits bytes lent = stored_if limits (words_of bytes) (read_lent limits bytes (length lent)) lent
