-- Numbers matched along a file from a place on, also with others in the place of a word (consequents, and comparisons in antecedents, are compared by words).
-- Working: `whole-sound` and `whole-complete` of proofs/Whole say which numbers stand where, `numbers-tell` of
-- proofs/Numbers that numbers tell their words, `replaces` of proofs/Replaced that the exchanged numbers of an
-- expression are those of the replaced one, `same_numbers-decides` of proofs/SameNumbers that the test decides equality.
-- Assumes nothing.
--     numbers, between        the numbers of words; of a file from a place up to another
--     matched_word, matched    past one number too, past a list of them; where one does not stand, the place where it is missing
--     put_for, exchanged       what is put for a word; for each of a list
--     came                    a place past numbers is another; it is not where one did not stand
--     same_numbers             equality, as a test
use Rattle.std.specs.Prelude.{Bool, true, false, ◌&&◌, cond, Result, Ok, Err, List, [], ◌∷◌, ◌++◌, ℕ, ◌+◌, eqb, ltb, length, get_or}
use Rattle.std.proofs.Math.Seq.{slice}
use Rattle.rules.specs.Words.{Word}
use Rattle.layout.specs.Spelling.{encode}
use Rattle.matching.specs.declared.cursor.Put.{Put}

unfoldable pub numbers : List Word → List ℕ
numbers [] = []
numbers (v ∷ l) = encode v ∷ numbers l

unfoldable pub between : List ℕ → ℕ → ℕ → List ℕ
between file a e = slice a e file

-- past the number if it stands there; else its place is where one is missing, and nothing is matched from there on
unfoldable pub matched_word : List ℕ → Result ℕ ℕ → ℕ → Result ℕ ℕ
matched_word file (Err at) x = Err at
matched_word file (Ok at) x = cond (ltb at (length file) && eqb (get_or file at 0) x) (Ok (at + 1)) (Err at)

unfoldable pub matched : List ℕ → Result ℕ ℕ → List ℕ → Result ℕ ℕ
matched file m [] = m
matched file m (x ∷ l) = matched file (matched_word file m x) l

unfoldable pub put_for : List ℕ → Put → ℕ → List ℕ
put_for file put x = cond (eqb x put.word) (between file put.from put.to) (x ∷ [])

unfoldable pub exchanged : List ℕ → Put → List ℕ → List ℕ
exchanged file put [] = []
exchanged file put (x ∷ l) = put_for file put x ++ exchanged file put l

unfoldable pub came : Result ℕ ℕ → ℕ → Bool
came (Err at) to = false
came (Ok at) to = eqb at to

unfoldable pub same_numbers : List ℕ → List ℕ → Bool
same_numbers [] [] = true
same_numbers [] (y ∷ l) = false
same_numbers (x ∷ k) [] = false
same_numbers (x ∷ k) (y ∷ l) = eqb x y && same_numbers k l
