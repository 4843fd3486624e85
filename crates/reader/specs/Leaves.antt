-- Operands of one word (document 01, "Layout": kinds 1, 2, 9, 16 and 17).
-- Working: `leaf-walk` of proofs/Leaving says that the reading goes on past such a word. Assumes nothing.
--     arithmetic_leaf, boolean_leaf, array_leaf    by sort
--     leaf_due                                   of the word that is due
use Rattle.std.specs.Prelude.{Bool, true, false, ℕ, Result, Ok, Err}
use Rattle.words.specs.Decode.{arithmetic_of, boolean_of, array_of}
use Rattle.words.specs.declared.ArithmeticWord.{ArithmeticWord}
use Rattle.words.specs.declared.ArithmeticWord.TheVariants as arithmetic
use Rattle.words.specs.declared.BooleanWord.{BooleanWord}
use Rattle.words.specs.declared.BooleanWord.TheVariants as boolean
use Rattle.words.specs.declared.ArrayWord.{ArrayWord}
use Rattle.words.specs.declared.ArrayWord.TheVariants as array
use Rattle.context.specs.declared.Refusal.{Refusal}
use Rattle.reader.specs.declared.FirstWord.{FirstWord}
use Rattle.reader.specs.declared.Sort.{Sort}
use Rattle.reader.specs.declared.Sort.TheVariants.{Arithmetic, Boolean, Array}

abbrev pub arithmetic_leaf : ArithmeticWord → Bool
arithmetic_leaf (arithmetic.Constant z) = true
arithmetic_leaf (arithmetic.Scalar x) = true
arithmetic_leaf (arithmetic.Operation o) = false
arithmetic_leaf arithmetic.Select = false
arithmetic_leaf arithmetic.Other = false

abbrev pub boolean_leaf : BooleanWord → Bool
boolean_leaf (boolean.Compare r) = false
boolean_leaf (boolean.Truth t) = true
boolean_leaf boolean.And = false
boolean_leaf boolean.Or = false
boolean_leaf boolean.Not = false
boolean_leaf boolean.Other = false

abbrev pub array_leaf : ArrayWord → Bool
array_leaf (array.Identifier a) = true
array_leaf array.Zeros = true
array_leaf array.Update = false
array_leaf array.Other = false

abbrev pub leaf_of : Sort → ℕ → ℕ → Bool
leaf_of Arithmetic k p = arithmetic_leaf (arithmetic_of k p)
leaf_of Boolean k p = boolean_leaf (boolean_of k p)
leaf_of Array k p = array_leaf (array_of k p)

abbrev pub leaf_due : Sort → Result FirstWord Refusal → Bool
leaf_due s (Ok f) = leaf_of s f.kind f.payload
leaf_due s (Err x) = false
