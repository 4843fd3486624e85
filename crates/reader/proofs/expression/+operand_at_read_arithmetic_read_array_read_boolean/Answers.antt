-- The readers of the three sorts meet their contracts: each goes by the word that is due. The measure is the words left
-- from the expression on, twice; one more for an operand.
-- Assumes nothing.
use native.Mathlib.Omega.{arith}
use mathlib.Core.Path.{refl, sym, ◌∙◌}
use Rattle.reader.proofs.Walks.{arithmetic-goes, boolean-goes, array-goes, exit, stop, arm, first-part, after-part, refused-part}
use Rattle.reader.proofs.Forward.{word-left, expression-left}
use Rattle.reader.proofs.Leaving.{leaf-walk}
use Rattle.reader.proofs.expression.+operand_at_read_arithmetic_read_array_read_boolean.Goals as goal

pub read_arithmetic-returns-in_err-first : goal.read_arithmetic-returns-in_err-first
read_arithmetic-returns-in_err-first t c =
    exit c.from_residual.ensures.1 (stop (arithmetic-goes c.args.w.now c.args.left c.args.at) c.in_err-first.ensures)

pub read_arithmetic-returns-in-Constant : goal.read_arithmetic-returns-in-Constant
read_arithmetic-returns-in-Constant t c =
    arm (arithmetic-goes c.args.w.now c.args.left c.args.at) c.in_ok-first.ensures c.arithmetic_word.ensures c.in-Constant.is
    refl

pub read_arithmetic-returns-in-Scalar : goal.read_arithmetic-returns-in-Scalar
read_arithmetic-returns-in-Scalar t c =
    arm (arithmetic-goes c.args.w.now c.args.left c.args.at) c.in_ok-first.ensures c.arithmetic_word.ensures c.in-Scalar.is
    refl

pub read_arithmetic-operand_at-requires : goal.read_arithmetic-operand_at-requires
read_arithmetic-operand_at-requires t c =
    let h = word-left _ _ _ c.in_ok-first.ensures in
    omega arith

pub read_arithmetic-operand_at-requires-in-Operation : goal.read_arithmetic-operand_at-requires-in-Operation
read_arithmetic-operand_at-requires-in-Operation t c =
    let h = word-left _ _ _ c.in_ok-first.ensures in
    let f = expression-left _ _ _ _ c.in_ok-second-in-Operation.ensures in
    omega arith

pub read_arithmetic-returns-in_err-second-in-Operation : goal.read_arithmetic-returns-in_err-second-in-Operation
read_arithmetic-returns-in_err-second-in-Operation t c =
    exit c.from_residual-in_err-second-in-Operation.ensures.1 (arm (arithmetic-goes c.args.w.now c.args.left c.args.at) c.in_ok-first.ensures c.arithmetic_word.ensures c.in-Operation.is
    (refused-part _ _ _ (first-part _ _ _ c.in_err-second-in-Operation.ensures)))

pub read_arithmetic-returns-in_ok-second-in-Operation : goal.read_arithmetic-returns-in_ok-second-in-Operation
read_arithmetic-returns-in_ok-second-in-Operation t c =
    arm (arithmetic-goes c.args.w.now c.args.left c.args.at) c.in_ok-first.ensures c.arithmetic_word.ensures c.in-Operation.is
    (after-part _ _ _ (first-part _ _ _ c.in_ok-second-in-Operation.ensures) c.operand_at-in-Operation.ensures)

pub read_arithmetic-operand_at-requires-in-Select : goal.read_arithmetic-operand_at-requires-in-Select
read_arithmetic-operand_at-requires-in-Select t c =
    let h = word-left _ _ _ c.in_ok-first.ensures in
    omega arith

pub read_arithmetic-operand_at-requires-in-Select-2 : goal.read_arithmetic-operand_at-requires-in-Select-2
read_arithmetic-operand_at-requires-in-Select-2 t c =
    let h = word-left _ _ _ c.in_ok-first.ensures in
    let f = expression-left _ _ _ _ c.in_ok-index-in-Select.ensures in
    omega arith

pub read_arithmetic-returns-in_err-index-in-Select : goal.read_arithmetic-returns-in_err-index-in-Select
read_arithmetic-returns-in_err-index-in-Select t c =
    exit c.from_residual-in_err-index-in-Select.ensures.1 (arm (arithmetic-goes c.args.w.now c.args.left c.args.at) c.in_ok-first.ensures c.arithmetic_word.ensures c.in-Select.is
    (refused-part _ _ _ (first-part _ _ _ c.in_err-index-in-Select.ensures)))

pub read_arithmetic-returns-in_ok-index-in-Select : goal.read_arithmetic-returns-in_ok-index-in-Select
read_arithmetic-returns-in_ok-index-in-Select t c =
    arm (arithmetic-goes c.args.w.now c.args.left c.args.at) c.in_ok-first.ensures c.arithmetic_word.ensures c.in-Select.is
    (after-part _ _ _ (first-part _ _ _ c.in_ok-index-in-Select.ensures) c.operand_at-in-Select-2.ensures)

pub read_arithmetic-returns-in-Other : goal.read_arithmetic-returns-in-Other
read_arithmetic-returns-in-Other t c =
    arm (arithmetic-goes c.args.w.now c.args.left c.args.at) c.in_ok-first.ensures c.arithmetic_word.ensures c.in-Other.is
    refl

pub read_array-returns-in_err-first : goal.read_array-returns-in_err-first
read_array-returns-in_err-first t c =
    exit c.from_residual.ensures.1 (stop (array-goes c.args.w.now c.args.left c.args.at) c.in_err-first.ensures)

pub read_array-returns-in-Identifier : goal.read_array-returns-in-Identifier
read_array-returns-in-Identifier t c =
    arm (array-goes c.args.w.now c.args.left c.args.at) c.in_ok-first.ensures c.array_word.ensures c.in-Identifier.is
    refl

pub read_array-returns-in-Zeros : goal.read_array-returns-in-Zeros
read_array-returns-in-Zeros t c =
    arm (array-goes c.args.w.now c.args.left c.args.at) c.in_ok-first.ensures c.array_word.ensures c.in-Zeros.is
    refl

pub read_array-operand_at-requires : goal.read_array-operand_at-requires
read_array-operand_at-requires t c =
    let h = word-left _ _ _ c.in_ok-first.ensures in
    omega arith

pub read_array-operand_at-requires-in-Update : goal.read_array-operand_at-requires-in-Update
read_array-operand_at-requires-in-Update t c =
    let h = word-left _ _ _ c.in_ok-first.ensures in
    let f = expression-left _ _ _ _ c.in_ok-index-in-Update.ensures in
    omega arith

pub read_array-operand_at-requires-in-Update-2 : goal.read_array-operand_at-requires-in-Update-2
read_array-operand_at-requires-in-Update-2 t c =
    let h = word-left _ _ _ c.in_ok-first.ensures in
    let f = expression-left _ _ _ _ c.in_ok-index-in-Update.ensures in
    let g = expression-left _ _ _ _ c.in_ok-value-in-Update.ensures in
    omega arith

pub read_array-returns-in_err-index-in-Update : goal.read_array-returns-in_err-index-in-Update
read_array-returns-in_err-index-in-Update t c =
    exit c.from_residual-in_err-index-in-Update.ensures.1 (arm (array-goes c.args.w.now c.args.left c.args.at) c.in_ok-first.ensures c.array_word.ensures c.in-Update.is
    (refused-part _ _ _ (refused-part _ _ _ (first-part _ _ _ c.in_err-index-in-Update.ensures))))

pub read_array-returns-in_err-value-in-Update : goal.read_array-returns-in_err-value-in-Update
read_array-returns-in_err-value-in-Update t c =
    exit c.from_residual-in_err-value-in-Update.ensures.1 (arm (array-goes c.args.w.now c.args.left c.args.at) c.in_ok-first.ensures c.array_word.ensures c.in-Update.is
    (refused-part _ _ _ (after-part _ _ _ (first-part _ _ _ c.in_ok-index-in-Update.ensures) c.in_err-value-in-Update.ensures)))

pub read_array-returns-in_ok-value-in-Update : goal.read_array-returns-in_ok-value-in-Update
read_array-returns-in_ok-value-in-Update t c =
    arm (array-goes c.args.w.now c.args.left c.args.at) c.in_ok-first.ensures c.array_word.ensures c.in-Update.is
    (after-part _ _ _ (after-part _ _ _ (first-part _ _ _ c.in_ok-index-in-Update.ensures) c.in_ok-value-in-Update.ensures) c.operand_at-in-Update-2.ensures)

pub read_array-returns-in-Other : goal.read_array-returns-in-Other
read_array-returns-in-Other t c =
    arm (array-goes c.args.w.now c.args.left c.args.at) c.in_ok-first.ensures c.array_word.ensures c.in-Other.is
    refl

pub read_boolean-returns-in_err-first : goal.read_boolean-returns-in_err-first
read_boolean-returns-in_err-first t c =
    exit c.from_residual.ensures.1 (stop (boolean-goes c.args.w.now c.args.left c.args.at) c.in_err-first.ensures)

pub read_boolean-operand_at-requires : goal.read_boolean-operand_at-requires
read_boolean-operand_at-requires t c =
    let h = word-left _ _ _ c.in_ok-first.ensures in
    omega arith

pub read_boolean-operand_at-requires-in-Compare : goal.read_boolean-operand_at-requires-in-Compare
read_boolean-operand_at-requires-in-Compare t c =
    let h = word-left _ _ _ c.in_ok-first.ensures in
    let f = expression-left _ _ _ _ c.in_ok-second-in-Compare.ensures in
    omega arith

pub read_boolean-returns-in_err-second-in-Compare : goal.read_boolean-returns-in_err-second-in-Compare
read_boolean-returns-in_err-second-in-Compare t c =
    exit c.from_residual-in_err-second-in-Compare.ensures.1 (arm (boolean-goes c.args.w.now c.args.left c.args.at) c.in_ok-first.ensures c.boolean_word.ensures c.in-Compare.is
    (refused-part _ _ _ (first-part _ _ _ c.in_err-second-in-Compare.ensures)))

pub read_boolean-returns-in_ok-second-in-Compare : goal.read_boolean-returns-in_ok-second-in-Compare
read_boolean-returns-in_ok-second-in-Compare t c =
    arm (boolean-goes c.args.w.now c.args.left c.args.at) c.in_ok-first.ensures c.boolean_word.ensures c.in-Compare.is
    (after-part _ _ _ (first-part _ _ _ c.in_ok-second-in-Compare.ensures) c.operand_at-in-Compare.ensures)

pub read_boolean-returns-in-Truth : goal.read_boolean-returns-in-Truth
read_boolean-returns-in-Truth t c =
    arm (boolean-goes c.args.w.now c.args.left c.args.at) c.in_ok-first.ensures c.boolean_word.ensures c.in-Truth.is
    refl

pub read_boolean-operand_at-requires-in-And : goal.read_boolean-operand_at-requires-in-And
read_boolean-operand_at-requires-in-And t c =
    let h = word-left _ _ _ c.in_ok-first.ensures in
    omega arith

pub read_boolean-operand_at-requires-in-And-2 : goal.read_boolean-operand_at-requires-in-And-2
read_boolean-operand_at-requires-in-And-2 t c =
    let h = word-left _ _ _ c.in_ok-first.ensures in
    let f = expression-left _ _ _ _ c.in_ok-second-in-And.ensures in
    omega arith

pub read_boolean-returns-in_err-second-in-And : goal.read_boolean-returns-in_err-second-in-And
read_boolean-returns-in_err-second-in-And t c =
    exit c.from_residual-in_err-second-in-And.ensures.1 (arm (boolean-goes c.args.w.now c.args.left c.args.at) c.in_ok-first.ensures c.boolean_word.ensures c.in-And.is
    (refused-part _ _ _ (first-part _ _ _ c.in_err-second-in-And.ensures)))

pub read_boolean-returns-in_ok-second-in-And : goal.read_boolean-returns-in_ok-second-in-And
read_boolean-returns-in_ok-second-in-And t c =
    arm (boolean-goes c.args.w.now c.args.left c.args.at) c.in_ok-first.ensures c.boolean_word.ensures c.in-And.is
    (after-part _ _ _ (first-part _ _ _ c.in_ok-second-in-And.ensures) c.operand_at-in-And-2.ensures)

pub read_boolean-operand_at-requires-in-Or : goal.read_boolean-operand_at-requires-in-Or
read_boolean-operand_at-requires-in-Or t c =
    let h = word-left _ _ _ c.in_ok-first.ensures in
    omega arith

pub read_boolean-operand_at-requires-in-Or-2 : goal.read_boolean-operand_at-requires-in-Or-2
read_boolean-operand_at-requires-in-Or-2 t c =
    let h = word-left _ _ _ c.in_ok-first.ensures in
    let f = expression-left _ _ _ _ c.in_ok-second-in-Or.ensures in
    omega arith

pub read_boolean-returns-in_err-second-in-Or : goal.read_boolean-returns-in_err-second-in-Or
read_boolean-returns-in_err-second-in-Or t c =
    exit c.from_residual-in_err-second-in-Or.ensures.1 (arm (boolean-goes c.args.w.now c.args.left c.args.at) c.in_ok-first.ensures c.boolean_word.ensures c.in-Or.is
    (refused-part _ _ _ (first-part _ _ _ c.in_err-second-in-Or.ensures)))

pub read_boolean-returns-in_ok-second-in-Or : goal.read_boolean-returns-in_ok-second-in-Or
read_boolean-returns-in_ok-second-in-Or t c =
    arm (boolean-goes c.args.w.now c.args.left c.args.at) c.in_ok-first.ensures c.boolean_word.ensures c.in-Or.is
    (after-part _ _ _ (first-part _ _ _ c.in_ok-second-in-Or.ensures) c.operand_at-in-Or-2.ensures)

pub read_boolean-operand_at-requires-in-Not : goal.read_boolean-operand_at-requires-in-Not
read_boolean-operand_at-requires-in-Not t c =
    let h = word-left _ _ _ c.in_ok-first.ensures in
    omega arith

pub read_boolean-returns-in-Not : goal.read_boolean-returns-in-Not
read_boolean-returns-in-Not t c =
    arm (boolean-goes c.args.w.now c.args.left c.args.at) c.in_ok-first.ensures c.boolean_word.ensures c.in-Not.is
    (first-part _ _ _ c.operand_at-in-Not.ensures)

pub read_boolean-returns-in-Other : goal.read_boolean-returns-in-Other
read_boolean-returns-in-Other t c =
    arm (boolean-goes c.args.w.now c.args.left c.args.at) c.in_ok-first.ensures c.boolean_word.ensures c.in-Other.is
    refl

pub operand_at-overflow_add-result : goal.operand_at-overflow_add-result
operand_at-overflow_add-result t c =
    omega (
      arith,
      c.shared_slice_known-1.given 0,
      (leaf-walk _ _ _ _ (sym c.is_leaf.ensures ∙ c.if-is_leaf.true)).inside,
    )

pub operand_at-returns-then-is_leaf : goal.operand_at-returns-then-is_leaf
operand_at-returns-then-is_leaf t c = (leaf-walk _ _ _ _ (sym c.is_leaf.ensures ∙ c.if-is_leaf.true)).past
