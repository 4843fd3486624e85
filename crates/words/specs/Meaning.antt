-- What the layout's tables give at a decoded word: how the parts that follow it are read, or nothing where the word is
-- not allowed.
-- Working: `arithmetic-of`, `boolean-of`, `array_of` and `command-of` of proofs/Tables tie each to the layout's table.
-- Assumes nothing.
--     operator_meant, comparison_meant                     of the enums
--     arithmetic_meaning, boolean_meaning, array_meaning    of expressions
--     command_meaning                                     of commands
use Rattle.std.proofs.Math.Option.{Option, none, some}
use Rattle.language.specs.Syntax as syntax
use Rattle.language.specs.Syntax.{Sort, Expr, constant, scalar, operation, select}
use Rattle.language.specs.Syntax.{compare, truth, and, or, neg, array, zeros, update, to_scalar, to_array}
use Rattle.language.specs.Syntax.{skip, sequence, assert, assign, if_else, while, for}
use Rattle.rules.specs.Context.{Context, called}
use Rattle.layout.specs.Reading.{Reader, pure, ◌⊛◌}
use Rattle.words.specs.declared.Operator.{Operator}
use Rattle.words.specs.declared.Operator.TheVariants.{Plus, Minus, Times}
use Rattle.words.specs.declared.Comparison.{Comparison}
use Rattle.words.specs.declared.Comparison.TheVariants.{Equal, Less, AtMost}
use Rattle.words.specs.declared.ArithmeticWord.{ArithmeticWord}
use Rattle.words.specs.declared.ArithmeticWord.TheVariants as arithmetic
use Rattle.words.specs.declared.ArithmeticWord.TheVariants.{Constant, Scalar, Operation, Select}
use Rattle.words.specs.declared.BooleanWord.{BooleanWord}
use Rattle.words.specs.declared.BooleanWord.TheVariants as boolean
use Rattle.words.specs.declared.BooleanWord.TheVariants.{Compare, Truth, And, Or, Not}
use Rattle.words.specs.declared.ArrayWord.{ArrayWord}
use Rattle.words.specs.declared.ArrayWord.TheVariants as array
use Rattle.words.specs.declared.ArrayWord.TheVariants.{Identifier, Zeros, Update}
use Rattle.words.specs.declared.CommandWord.{CommandWord}
use Rattle.words.specs.declared.CommandWord.TheVariants as command
use Rattle.words.specs.declared.CommandWord.TheVariants.{Skip, Sequence, Assert, AssignScalar, AssignArray, If}
use Rattle.words.specs.declared.CommandWord.TheVariants.{While, For, Call}

abbrev pub operator_meant : Operator → syntax.Operator
operator_meant Plus = syntax.plus
operator_meant Minus = syntax.minus
operator_meant Times = syntax.times

abbrev pub comparison_meant : Comparison → syntax.Comparison
comparison_meant Equal = syntax.equal
comparison_meant Less = syntax.less
comparison_meant AtMost = syntax.at_most

-- `part j` reads an operand of sort j
module _ (part : (j : Sort) → Reader (Expr j)) where
  abbrev pub arithmetic_meaning : ArithmeticWord → Option (Reader (Expr syntax.Arithmetic))
  arithmetic_meaning (Constant z) = some (pure (constant z))
  arithmetic_meaning (Scalar x) = some (pure (scalar x))
  arithmetic_meaning (Operation o) = some (pure (operation (operator_meant o)) ⊛ part syntax.Arithmetic ⊛ part syntax.Arithmetic)
  arithmetic_meaning Select = some (pure select ⊛ part syntax.Array ⊛ part syntax.Arithmetic)
  arithmetic_meaning arithmetic.Other = none

  abbrev pub boolean_meaning : BooleanWord → Option (Reader (Expr syntax.Boolean))
  boolean_meaning (Compare r) = some (pure (compare (comparison_meant r)) ⊛ part syntax.Arithmetic ⊛ part syntax.Arithmetic)
  boolean_meaning (Truth t) = some (pure (truth t))
  boolean_meaning And = some (pure and ⊛ part syntax.Boolean ⊛ part syntax.Boolean)
  boolean_meaning Or = some (pure or ⊛ part syntax.Boolean ⊛ part syntax.Boolean)
  boolean_meaning Not = some (pure neg ⊛ part syntax.Boolean)
  boolean_meaning boolean.Other = none

  abbrev pub array_meaning : ArrayWord → Option (Reader (Expr syntax.Array))
  array_meaning (Identifier a) = some (pure (array a))
  array_meaning Zeros = some (pure zeros)
  array_meaning Update = some (pure update ⊛ part syntax.Array ⊛ part syntax.Arithmetic ⊛ part syntax.Arithmetic)
  array_meaning array.Other = none

-- `part j` reads an operand, `body` a command; a call holds the body that the context has for its number
module _ (Γ : Context) (part : (j : Sort) → Reader (Expr j)) (body : Reader syntax.Command) where
  abbrev pub command_meaning : CommandWord → Option (Reader syntax.Command)
  command_meaning Skip = some (pure skip)
  command_meaning Sequence = some (pure sequence ⊛ body ⊛ body)
  command_meaning Assert = some (pure assert ⊛ part syntax.Boolean)
  command_meaning (AssignScalar x) = some (pure (λ e. assign (to_scalar x e)) ⊛ part syntax.Arithmetic)
  command_meaning (AssignArray a) = some (pure (λ e. assign (to_array a e)) ⊛ part syntax.Array)
  command_meaning If = some (pure if_else ⊛ part syntax.Boolean ⊛ body ⊛ body)
  command_meaning While = some (pure while ⊛ part syntax.Boolean ⊛ body)
  command_meaning (For q m) = some (pure (for q m) ⊛ body)
  command_meaning (Call p) = some (pure (called Γ p))
  command_meaning command.Other = none
