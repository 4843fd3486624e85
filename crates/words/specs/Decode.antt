-- What a word stands for in its group, by kind and payload (document 01, "Layout"; document 02, request [3]). A word that the
-- group's list does not allow is `Other`.
-- Working: `arithmetic-of`, `boolean-of`, `array_of` and `command-of` of proofs/Tables tie it to the layout's tables.
-- Assumes nothing.
--     arithmetic_of, boolean_of, array_of, command_of    kinds 1 to 4, 8 to 12, 16 to 18, and 24 to 31 with 38
use Rattle.std.specs.Prelude.{true, false, cond, ℕ, ◌/◌, ◌%◌, eqb, leb}
use Rattle.layout.specs.Constant.{constant_of}
use Rattle.words.specs.declared.Operator.TheVariants.{Plus, Minus, Times}
use Rattle.words.specs.declared.Comparison.TheVariants.{Equal, Less, AtMost}
use Rattle.words.specs.declared.ArithmeticWord.{ArithmeticWord}
use Rattle.words.specs.declared.ArithmeticWord.TheVariants as arithmetic
use Rattle.words.specs.declared.ArithmeticWord.TheVariants.{Constant, Scalar, Operation, Select}
use Rattle.words.specs.declared.BooleanWord.{BooleanWord}
use Rattle.words.specs.declared.BooleanWord.TheVariants as boolean
use Rattle.words.specs.declared.BooleanWord.TheVariants.{Compare, Truth, And, Or, Not}
use Rattle.words.specs.declared.ArrayWord.{ArrayWord}
use Rattle.words.specs.declared.ArrayWord.TheVariants as array
use Rattle.words.specs.declared.ArrayWord.TheVariants.{Identifier, Zeros, Update}
use Rattle.words.specs.declared.CommandWord.{CommandWord}
use Rattle.words.specs.declared.CommandWord.TheVariants as command
use Rattle.words.specs.declared.CommandWord.TheVariants.{Skip, Sequence, Assert, AssignScalar, AssignArray, If}
use Rattle.words.specs.declared.CommandWord.TheVariants.{While, For, Call}

-- a payload up to a bound
abbrev pub within : {A : Type 0} → ℕ → ℕ → A → A → A
within n p w other = cond (leb p n) w other

abbrev pub operator_word : ℕ → ArithmeticWord
operator_word p =
    cond (eqb p 0) (Operation Plus) (cond (eqb p 1) (Operation Minus) (cond (eqb p 2) (Operation Times) arithmetic.Other))

abbrev pub comparison_word : ℕ → BooleanWord
comparison_word p =
    cond (eqb p 0) (Compare Equal) (cond (eqb p 1) (Compare Less) (cond (eqb p 2) (Compare AtMost) boolean.Other))

abbrev pub truth_word : ℕ → BooleanWord
truth_word p = cond (eqb p 0) (Truth false) (cond (eqb p 1) (Truth true) boolean.Other)

unfoldable pub arithmetic_of : ℕ → ℕ → ArithmeticWord
arithmetic_of k p =
    cond (eqb k 1) (Constant (constant_of p))
    (cond (eqb k 2) (within 31 p (Scalar p) arithmetic.Other)
    (cond (eqb k 3) (operator_word p)
    (cond (eqb k 4) (within 0 p Select arithmetic.Other) arithmetic.Other)))

unfoldable pub boolean_of : ℕ → ℕ → BooleanWord
boolean_of k p =
    cond (eqb k 8) (comparison_word p)
    (cond (eqb k 9) (truth_word p)
    (cond (eqb k 10) (within 0 p And boolean.Other)
    (cond (eqb k 11) (within 0 p Or boolean.Other)
    (cond (eqb k 12) (within 0 p Not boolean.Other) boolean.Other))))

unfoldable pub array_of : ℕ → ℕ → ArrayWord
array_of k p =
    cond (eqb k 16) (within 31 p (Identifier p) array.Other)
    (cond (eqb k 17) (within 0 p Zeros array.Other)
    (cond (eqb k 18) (within 0 p Update array.Other) array.Other))

unfoldable pub command_of : ℕ → ℕ → CommandWord
command_of k p =
    cond (eqb k 24) (within 0 p Skip command.Other)
    (cond (eqb k 25) (within 0 p Sequence command.Other)
    (cond (eqb k 26) (within 0 p Assert command.Other)
    (cond (eqb k 27) (within 31 p (AssignScalar p) command.Other)
    (cond (eqb k 28) (within 31 p (AssignArray p) command.Other)
    (cond (eqb k 29) (within 0 p If command.Other)
    (cond (eqb k 30) (within 0 p While command.Other)
    (cond (eqb k 31) (within 1023 p (For (p % 32) (p / 32)) command.Other)
    (cond (eqb k 38) (Call p) command.Other))))))))
