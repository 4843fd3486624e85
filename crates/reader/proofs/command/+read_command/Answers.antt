-- The reader of commands meets its contract: it goes by the word that is due. The measure is the words left from the command on.
-- Assumes nothing.
use native.Mathlib.Omega.{arith}
use mathlib.Core.Path.{refl}
use Rattle.reader.proofs.Walks.{command-goes, exit, stop, arm, first-part, after-part, refused-part}
use Rattle.reader.proofs.Forward.{word-left, expression-left, command-left}
use Rattle.reader.proofs.command.+read_command.Goals as goal

pub returns-in_err-first : goal.returns-in_err-first
returns-in_err-first t c =
    exit c.from_residual.ensures.1 (stop (command-goes c.args.w.now c.args.left c.args.at) c.in_err-first.ensures)

pub returns-in-Skip : goal.returns-in-Skip
returns-in-Skip t c =
    arm (command-goes c.args.w.now c.args.left c.args.at) c.in_ok-first.ensures c.command_word.ensures c.in-Skip.is
    refl

pub read_command-requires : goal.read_command-requires
read_command-requires t c =
    let h = word-left _ _ _ c.in_ok-first.ensures in
    omega arith

pub read_command-requires-in-Sequence : goal.read_command-requires-in-Sequence
read_command-requires-in-Sequence t c =
    let h = word-left _ _ _ c.in_ok-first.ensures in
    let f = command-left _ _ _ c.in_ok-second-in-Sequence.ensures in
    omega arith

pub returns-in_err-second-in-Sequence : goal.returns-in_err-second-in-Sequence
returns-in_err-second-in-Sequence t c =
    exit c.from_residual-in_err-second-in-Sequence.ensures.1 (arm (command-goes c.args.w.now c.args.left c.args.at) c.in_ok-first.ensures c.command_word.ensures c.in-Sequence.is
    (refused-part _ _ _ (first-part _ _ _ c.in_err-second-in-Sequence.ensures)))

pub returns-in_ok-second-in-Sequence : goal.returns-in_ok-second-in-Sequence
returns-in_ok-second-in-Sequence t c =
    arm (command-goes c.args.w.now c.args.left c.args.at) c.in_ok-first.ensures c.command_word.ensures c.in-Sequence.is
    (after-part _ _ _ (first-part _ _ _ c.in_ok-second-in-Sequence.ensures) c.read_command-in-Sequence.ensures)

pub returns-in-Assert : goal.returns-in-Assert
returns-in-Assert t c =
    arm (command-goes c.args.w.now c.args.left c.args.at) c.in_ok-first.ensures c.command_word.ensures c.in-Assert.is
    (first-part _ _ _ c.read_operand.ensures)

pub returns-in-AssignScalar : goal.returns-in-AssignScalar
returns-in-AssignScalar t c =
    arm (command-goes c.args.w.now c.args.left c.args.at) c.in_ok-first.ensures c.command_word.ensures c.in-AssignScalar.is
    (first-part _ _ _ c.read_arithmetic.ensures)

pub returns-in-AssignArray : goal.returns-in-AssignArray
returns-in-AssignArray t c =
    arm (command-goes c.args.w.now c.args.left c.args.at) c.in_ok-first.ensures c.command_word.ensures c.in-AssignArray.is
    (first-part _ _ _ c.read_array.ensures)

pub read_command-requires-in-If : goal.read_command-requires-in-If
read_command-requires-in-If t c =
    let h = word-left _ _ _ c.in_ok-first.ensures in
    let f = expression-left _ _ _ _ c.in_ok-then-in-If.ensures in
    omega arith

pub read_command-requires-in-If-2 : goal.read_command-requires-in-If-2
read_command-requires-in-If-2 t c =
    let h = word-left _ _ _ c.in_ok-first.ensures in
    let f = expression-left _ _ _ _ c.in_ok-then-in-If.ensures in
    let g = command-left _ _ _ c.in_ok-other-in-If.ensures in
    omega arith

pub returns-in_err-then-in-If : goal.returns-in_err-then-in-If
returns-in_err-then-in-If t c =
    exit c.from_residual-in_err-then-in-If.ensures.1 (arm (command-goes c.args.w.now c.args.left c.args.at) c.in_ok-first.ensures c.command_word.ensures c.in-If.is
    (refused-part _ _ _ (refused-part _ _ _ (first-part _ _ _ c.in_err-then-in-If.ensures))))

pub returns-in_err-other-in-If : goal.returns-in_err-other-in-If
returns-in_err-other-in-If t c =
    exit c.from_residual-in_err-other-in-If.ensures.1 (arm (command-goes c.args.w.now c.args.left c.args.at) c.in_ok-first.ensures c.command_word.ensures c.in-If.is
    (refused-part _ _ _ (after-part _ _ _ (first-part _ _ _ c.in_ok-then-in-If.ensures) c.in_err-other-in-If.ensures)))

pub returns-in_ok-other-in-If : goal.returns-in_ok-other-in-If
returns-in_ok-other-in-If t c =
    arm (command-goes c.args.w.now c.args.left c.args.at) c.in_ok-first.ensures c.command_word.ensures c.in-If.is
    (after-part _ _ _ (after-part _ _ _ (first-part _ _ _ c.in_ok-then-in-If.ensures) c.in_ok-other-in-If.ensures) c.read_command-in-If-2.ensures)

pub read_command-requires-in-While : goal.read_command-requires-in-While
read_command-requires-in-While t c =
    let h = word-left _ _ _ c.in_ok-first.ensures in
    let f = expression-left _ _ _ _ c.in_ok-body-in-While.ensures in
    omega arith

pub returns-in_err-body-in-While : goal.returns-in_err-body-in-While
returns-in_err-body-in-While t c =
    exit c.from_residual-in_err-body-in-While.ensures.1 (arm (command-goes c.args.w.now c.args.left c.args.at) c.in_ok-first.ensures c.command_word.ensures c.in-While.is
    (refused-part _ _ _ (first-part _ _ _ c.in_err-body-in-While.ensures)))

pub returns-in_ok-body-in-While : goal.returns-in_ok-body-in-While
returns-in_ok-body-in-While t c =
    arm (command-goes c.args.w.now c.args.left c.args.at) c.in_ok-first.ensures c.command_word.ensures c.in-While.is
    (after-part _ _ _ (first-part _ _ _ c.in_ok-body-in-While.ensures) c.read_command-in-While.ensures)

pub read_command-requires-in-For : goal.read_command-requires-in-For
read_command-requires-in-For t c =
    let h = word-left _ _ _ c.in_ok-first.ensures in
    omega arith

pub returns-in-For : goal.returns-in-For
returns-in-For t c =
    arm (command-goes c.args.w.now c.args.left c.args.at) c.in_ok-first.ensures c.command_word.ensures c.in-For.is
    (first-part _ _ _ c.read_command-in-For.ensures)

pub returns-in-Call : goal.returns-in-Call
returns-in-Call t c =
    arm (command-goes c.args.w.now c.args.left c.args.at) c.in_ok-first.ensures c.command_word.ensures c.in-Call.is
    refl

pub returns-in-Other : goal.returns-in-Other
returns-in-Other t c =
    arm (command-goes c.args.w.now c.args.left c.args.at) c.in_ok-first.ensures c.command_word.ensures c.in-Other.is
    refl
