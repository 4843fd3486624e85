-- The parts of an accepted file, and what the calls answer of them (document 02, request [6]).
-- Working: `bytes-precondition` of proofs/Parts and its like tie these to the layout's own definitions, which the calls have in their contracts.
-- Assumes nothing.
--     range_in, range_at     a part's first place and the place past its last, in a program; by the places
--     bytes_of, places_of    its bytes, none of a refused file; its places as one number, 0 of a refused file
use Rattle.std.specs.Prelude.{List, [], ℕ}
use Rattle.rules.specs.Context.{Limits}
use Rattle.layout.specs.Program.{Program}
use Rattle.layout.specs.File.{file_of}
use Rattle.layout.specs.Verdict.{verdict_of, part_of, bytes_between, packed_places}
use Rattle.reader.specs.declared.Places.{Places}
use Rattle.flow.specs.declared.part.Part.{Part}
use Rattle.flow.specs.declared.part.Part.TheVariants as part

abbrev pub range_in : Part → Program → ℕ × ℕ
range_in part.Program f = (f.start, f.pre_at)
range_in part.Precondition f = (f.pre_at, f.post_at)
range_in part.Postcondition f = (f.post_at, f.evidence_at)

abbrev pub range_at : Part → Places → ℕ × ℕ
range_at part.Program s = (s.start, s.pre)
range_at part.Precondition s = (s.pre, s.post)
range_at part.Postcondition s = (s.post, s.evidence)

unfoldable pub bytes_of : Part → Limits → List ℕ → List ℕ
bytes_of part limits bytes =
    part_of [] (verdict_of limits bytes) (file_of limits bytes) λ f. bytes_between bytes (range_in part f.main).0 (range_in part f.main).1

unfoldable pub places_of : Part → Limits → List ℕ → ℕ
places_of part limits bytes =
    part_of 0 (verdict_of limits bytes) (file_of limits bytes) λ f. packed_places (range_in part f.main).0 (range_in part f.main).1
