-- The first word of an expression or a command, decoded.
-- Assumes nothing.
--     arithmetic_head, boolean_head, array_head, command_head    the first word of a tree
--     arithmetic-decoded, boolean-decoded, array-decoded, command-decoded
--                                                            is what its kind and payload say
use mathlib.Core.Path.{◌≡◌, refl, ap, ap₂}
use mathlib.Core.Bool.{Bool, true, false}
use Prim.Native.Nat.{◌+◌, ◌*◌}
use native.Mathlib.Omega.{arith}
use borrow.Author.Tests.{le-leb}
use Rattle.language.specs.Syntax as syntax
use Rattle.language.specs.Syntax.{plus, minus, times, equal, less, at_most}
use Rattle.language.specs.Syntax.{Expr, constant, scalar, operation, select, compare, truth, and, or, neg}
use Rattle.language.specs.Syntax.{array, zeros, update, to_scalar, to_array}
use Rattle.language.specs.Syntax.{skip, sequence, assert, assign, if_else, while, for, call}
use Rattle.rules.specs.Words.{operator_payload, comparison_payload, truth_payload}
use Rattle.rules.specs.Context.{Context}
use Rattle.layout.specs.Spelling.{payload_of}
use Rattle.layout.specs.Nodes.{expression_node, command_node, head_of, kind_of, content_of, InRange}
use Rattle.layout.proofs.Words.{for-first, for-second}
use Rattle.words.specs.Decode.{arithmetic_of, boolean_of, array_of, command_of}
use Rattle.words.specs.declared.Operator.{Operator}
use Rattle.words.specs.declared.Operator.TheVariants.{Plus, Minus, Times}
use Rattle.words.specs.declared.Comparison.{Comparison}
use Rattle.words.specs.declared.Comparison.TheVariants.{Equal, Less, AtMost}
use Rattle.words.specs.declared.ArithmeticWord.{ArithmeticWord}
use Rattle.words.specs.declared.ArithmeticWord.TheVariants.{Constant, Scalar, Operation, Select}
use Rattle.words.specs.declared.BooleanWord.{BooleanWord}
use Rattle.words.specs.declared.BooleanWord.TheVariants.{Compare, Truth, And, Or, Not}
use Rattle.words.specs.declared.ArrayWord.{ArrayWord}
use Rattle.words.specs.declared.ArrayWord.TheVariants.{Identifier, Zeros, Update}
use Rattle.words.specs.declared.CommandWord.{CommandWord}
use Rattle.words.specs.declared.CommandWord.TheVariants.{Skip, Sequence, Assert, AssignScalar, AssignArray, If, While}
use Rattle.words.specs.declared.CommandWord.TheVariants.{For, Call}

abbrev pub operator_head : syntax.Operator → Operator
operator_head plus = Plus
operator_head minus = Minus
operator_head times = Times

abbrev pub comparison_head : syntax.Comparison → Comparison
comparison_head equal = Equal
comparison_head less = Less
comparison_head at_most = AtMost

abbrev pub arithmetic_head : Expr syntax.Arithmetic → ArithmeticWord
arithmetic_head (constant z) = Constant z
arithmetic_head (scalar x) = Scalar x
arithmetic_head (operation o a b) = Operation (operator_head o)
arithmetic_head (select h i) = Select

abbrev pub boolean_head : Expr syntax.Boolean → BooleanWord
boolean_head (compare r a b) = Compare (comparison_head r)
boolean_head (truth t) = Truth t
boolean_head (and b c) = And
boolean_head (or b c) = Or
boolean_head (neg b) = Not

abbrev pub array_head : Expr syntax.Array → ArrayWord
array_head (array a) = Identifier a
array_head zeros = Zeros
array_head (update h i a) = Update

abbrev pub command_head : syntax.Command → CommandWord
command_head skip = Skip
command_head (sequence c d) = Sequence
command_head (assert b) = Assert
command_head (assign (to_scalar x e)) = AssignScalar x
command_head (assign (to_array a e)) = AssignArray a
command_head (if_else b c d) = If
command_head (while b c) = While
command_head (for q m c) = For q m
command_head (call n c) = Call n

operator_decoded : (o : syntax.Operator) →
    arithmetic_of 3 (payload_of (operator_payload o)) ≡ Operation (operator_head o)
unfolding arithmetic_of
operator_decoded plus = refl
operator_decoded minus = refl
operator_decoded times = refl

comparison_decoded : (r : syntax.Comparison) →
    boolean_of 8 (payload_of (comparison_payload r)) ≡ Compare (comparison_head r)
unfolding boolean_of
comparison_decoded equal = refl
comparison_decoded less = refl
comparison_decoded at_most = refl

truth-decoded : (t : Bool) → boolean_of 9 (payload_of (truth_payload t)) ≡ Truth t
unfolding boolean_of
truth-decoded false = refl
truth-decoded true = refl

-- the first word of a node that is in range, decoded
pub arithmetic-decoded : (e : Expr syntax.Arithmetic) → InRange (head_of (expression_node e)) →
    arithmetic_of (kind_of (head_of (expression_node e))) (content_of (head_of (expression_node e))) ≡ arithmetic_head e
unfolding arithmetic_of
arithmetic-decoded (constant z) h = ap Constant h.1
arithmetic-decoded (scalar x) h = rw (le-leb x 31 (omega (arith, h.0)))
arithmetic-decoded (operation o a b) h = operator_decoded o
arithmetic-decoded (select a i) h = refl

pub boolean-decoded : (e : Expr syntax.Boolean) →
    boolean_of (kind_of (head_of (expression_node e))) (content_of (head_of (expression_node e))) ≡ boolean_head e
unfolding boolean_of
boolean-decoded (compare r a b) = comparison_decoded r
boolean-decoded (truth t) = truth-decoded t
boolean-decoded (and b c) = refl
boolean-decoded (or b c) = refl
boolean-decoded (neg b) = refl

pub array-decoded : (e : Expr syntax.Array) → InRange (head_of (expression_node e)) →
    array_of (kind_of (head_of (expression_node e))) (content_of (head_of (expression_node e))) ≡ array_head e
unfolding array_of
array-decoded (array a) h = rw (le-leb a 31 (omega (arith, h.0)))
array-decoded zeros h = refl
array-decoded (update a i b) h = refl

pub command-decoded : (Γ : Context) (c : syntax.Command) → InRange (head_of (command_node Γ c)) →
    command_of (kind_of (head_of (command_node Γ c))) (content_of (head_of (command_node Γ c))) ≡ command_head c
unfolding command_of
command-decoded Γ skip h = refl
command-decoded Γ (sequence a b) h = refl
command-decoded Γ (assert b) h = refl
command-decoded Γ (assign (to_scalar x e)) h = rw (le-leb x 31 (omega (arith, h.0)))
command-decoded Γ (assign (to_array a e)) h = rw (le-leb a 31 (omega (arith, h.0)))
command-decoded Γ (if_else b c₁ c₂) h = refl
command-decoded Γ (while b c) h = refl
command-decoded Γ (for q m c) h =
    rw (le-leb (q + 32 * m) 1023 (omega (arith, h.0, h.1))) (ap₂ For (for-first q m h.0) (for-second q m h.0))
command-decoded Γ (call n c) h = refl
