-- The answer of the check on bytes (document 01, "Judging order" 1 to 9; document 02, requests [3] and [6]), and the parts of an accepted file.
-- Trusted. Assumes nothing.
--     judge_program, judge_programs            refusals 8 and 9 of a program; of procedures and the main program, in file order
--     judged, verdict_of                      of a file that was read; 19, 1 to 9 and 16 of bytes
--     bytes_between, part_of                   the bytes of the words between two places; a part of an accepted file
--     precondition, postcondition            that part of the caller's bytes; empty if the file is refused
--     packed_places                           two places as one number
--     program_places, precondition_places, postcondition_places
--                                            the places of a part, as one number
--     packed                                 the number that the C call answers
use Rattle.std.specs.Prelude.{List, [], ◌∷◌, ℕ, ◌+◌, ◌*◌, ◌-◌, take, drop}
use Rattle.rules.specs.Context.{Limits, Context, alone}
use Rattle.rules.specs.Judge.{Verdict, accepted, refused, ◌also◌, judge}
use Rattle.layout.specs.Reading.{Reading, read, fault}
use Rattle.layout.specs.Program.{Program, after}
use Rattle.layout.specs.File.{File, file_of}

abbrev pub judge_program : Context → Program → Verdict
judge_program Γ f = judge Γ f.evidence f.pre f.command f.post

-- each is judged under the procedures before it
unfoldable pub judge_programs : Context → List Program → Program → Verdict
judge_programs Γ [] f = judge_program Γ f
judge_programs Γ (g ∷ l) f = judge_program Γ g also judge_programs (after Γ g) l f

abbrev pub judged : Limits → Reading File → Verdict
judged limits (read f p) = judge_programs (alone limits) f.procedures f.main
judged limits (fault n p) = refused n p

unfoldable pub verdict_of : Limits → List ℕ → Verdict
verdict_of limits bytes = judged limits (file_of limits bytes)

-- the bytes of the words from place a up to place b
abbrev pub bytes_between : List ℕ → ℕ → ℕ → List ℕ
bytes_between bytes a b = take (4 * b - 4 * a) (drop (4 * a) bytes)

-- what `part` gives of an accepted file, or `none` of a refused one
abbrev pub part_of : {A : Type 0} → A → Verdict → Reading File → (File → A) → A
part_of none (accepted n) (read f p) part = part f
part_of none (accepted n) (fault k p) part = none
part_of none (refused k i) r part = none

unfoldable pub precondition : Limits → List ℕ → List ℕ
precondition limits bytes =
    part_of [] (verdict_of limits bytes) (file_of limits bytes) λ f. bytes_between bytes f.main.pre_at f.main.post_at

unfoldable pub postcondition : Limits → List ℕ → List ℕ
postcondition limits bytes =
    part_of [] (verdict_of limits bytes) (file_of limits bytes) λ f. bytes_between bytes f.main.post_at f.main.evidence_at

-- the places of a part as one number, first × 65,536 + the place past its last word; 0 if the file is refused
abbrev pub packed_places : ℕ → ℕ → ℕ
packed_places first past = first * 65536 + past

unfoldable pub program_places : Limits → List ℕ → ℕ
program_places limits bytes =
    part_of 0 (verdict_of limits bytes) (file_of limits bytes) λ f. packed_places f.main.start f.main.pre_at

unfoldable pub precondition_places : Limits → List ℕ → ℕ
precondition_places limits bytes =
    part_of 0 (verdict_of limits bytes) (file_of limits bytes) λ f. packed_places f.main.pre_at f.main.post_at

unfoldable pub postcondition_places : Limits → List ℕ → ℕ
postcondition_places limits bytes =
    part_of 0 (verdict_of limits bytes) (file_of limits bytes) λ f. packed_places f.main.post_at f.main.evidence_at

-- number × 65,536 + place, or the count
abbrev pub packed : Verdict → ℕ
packed (accepted n) = n
packed (refused k i) = k * 65536 + i
