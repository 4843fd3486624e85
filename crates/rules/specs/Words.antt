-- The words of expressions and commands in prefix order, and sameness by words (document 01, "Layout"; document 02, request [3]).
-- Trusted. Assumes nothing.
--     Word                     a word by its kind and payload
--     operator_payload, comparison_payload, truth_payload
--                              the payloads of kinds 3, 8 and 9
--     words                    the words of an expression
--     assignment_words, command_words
--                              of an assignment, of a command
--     same_word, same_words      equality of words, as tests
use Rattle.std.specs.Prelude.{Bool, true, false, ◌&&◌, List, [], ◌∷◌, ◌++◌, ℕ, eqb, ℤ, pos}
use Rattle.language.specs.Syntax.{Operator, plus, minus, times, Comparison, equal, less, at_most}
use Rattle.language.specs.Syntax.{Sort, Expr, constant, scalar, operation, select, compare, truth, and, or, neg}
use Rattle.language.specs.Syntax.{array, zeros, update, Assignment, to_scalar, to_array}
use Rattle.language.specs.Syntax.{Command, skip, sequence, assert, assign, if_else, while, for, call}
use Rattle.language.specs.Store.{same_integer}

-- `word k p` is k:p, where a constant's payload stands as its integer; `for_word q m` is 31:(q + 32 × m)
pub data Word : Type 0 where
  word : ℕ → ℤ → Word
  for_word : ℕ → ℕ → Word

abbrev pub operator_payload : Operator → ℤ
operator_payload plus = pos 0
operator_payload minus = pos 1
operator_payload times = pos 2

abbrev pub comparison_payload : Comparison → ℤ
comparison_payload equal = pos 0
comparison_payload less = pos 1
comparison_payload at_most = pos 2

abbrev pub truth_payload : Bool → ℤ
truth_payload false = pos 0
truth_payload true = pos 1

unfoldable pub words : {k : Sort} → Expr k → List Word
words (constant z) = word 1 z ∷ []
words (scalar x) = word 2 (pos x) ∷ []
words (operation o a b) = word 3 (operator_payload o) ∷ (words a ++ words b)
words (select h i) = word 4 (pos 0) ∷ (words h ++ words i)
words (compare r a b) = word 8 (comparison_payload r) ∷ (words a ++ words b)
words (truth t) = word 9 (truth_payload t) ∷ []
words (and b c) = word 10 (pos 0) ∷ (words b ++ words c)
words (or b c) = word 11 (pos 0) ∷ (words b ++ words c)
words (neg b) = word 12 (pos 0) ∷ words b
words (array a) = word 16 (pos a) ∷ []
words zeros = word 17 (pos 0) ∷ []
words (update h i a) = word 18 (pos 0) ∷ (words h ++ (words i ++ words a))

abbrev pub assignment_words : Assignment → List Word
assignment_words (to_scalar x e) = word 27 (pos x) ∷ words e
assignment_words (to_array a e) = word 28 (pos a) ∷ words e

-- a call is its word alone: the body stands elsewhere in the file
unfoldable pub command_words : Command → List Word
command_words skip = word 24 (pos 0) ∷ []
command_words (sequence c d) = word 25 (pos 0) ∷ (command_words c ++ command_words d)
command_words (assert b) = word 26 (pos 0) ∷ words b
command_words (assign a) = assignment_words a
command_words (if_else b c d) = word 29 (pos 0) ∷ (words b ++ (command_words c ++ command_words d))
command_words (while b c) = word 30 (pos 0) ∷ (words b ++ command_words c)
command_words (for q m c) = for_word q m ∷ command_words c
command_words (call p c) = word 38 (pos p) ∷ []

abbrev pub same_word : Word → Word → Bool
same_word (word j y) (word k z) = eqb j k && same_integer y z
same_word (word j y) (for_word q m) = false
same_word (for_word q m) (word k z) = false
same_word (for_word q m) (for_word r n) = eqb q r && eqb m n

abbrev pub same_words : List Word → List Word → Bool
same_words [] [] = true
same_words [] (v ∷ l) = false
same_words (w ∷ k) [] = false
same_words (w ∷ k) (v ∷ l) = same_word w v && same_words k l
