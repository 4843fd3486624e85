-- The count of evidence words, all of kinds 33 to 35 (document 01, "Judging order"), among the words of a file.
-- Trusted. Assumes nothing.
--     is_evidence, count_evidence    a word of these kinds; how many of them there are
use Rattle.std.specs.Prelude.{Bool, ◌&&◌, cond, List, [], ◌∷◌, ℕ, suc, ◌/◌, leb}
use Rattle.layout.specs.Bytes.{payloads}

abbrev pub is_evidence : ℕ → Bool
is_evidence w = leb 33 (w / payloads) && leb (w / payloads) 35

unfoldable pub count_evidence : List ℕ → ℕ
count_evidence [] = 0
count_evidence (w ∷ l) = cond (is_evidence w) (suc (count_evidence l)) (count_evidence l)
