-- `flow_compound::loops::rule_13` meets its contract.
-- Assumes nothing.
use native.Mathlib.Omega.{arith}
use Rattle.std.proofs.lemmas.Result.{err_from_is_err_and}
use Rattle.goals.proofs.Ensured.{ensured, is-equal, exits, exits-unequal}
use Rattle.flow_compound.proofs.Goal.{command-head, can-two}
use Rattle.flow_compound.proofs.LoopRules.{can-test, not-while, not_same, while-comes}
use Rattle.flow_compound.proofs.loops.rule_13.Goals as goal

pub offset_bounds-file-c : goal.offset_bounds-file-c
offset_bounds-file-c c = let i = command-head c.requires.can in omega arith

pub bounds-file-c : goal.bounds-file-c
bounds-file-c c = command-head c.requires.can

pub returns-in_err-ensure : goal.returns-in_err-ensure
returns-in_err-ensure c =
    exits-unequal (err_from_is_err_and _ c.from_residual.ensures.1) c.in_err-ensure.ensures (not-while c.requires)

pub same_written-requires : goal.same_written-requires
same_written-requires c = can-two c.requires.can

pub returns-in_err-ensure-2 : goal.returns-in_err-ensure-2
returns-in_err-ensure-2 c =
    exits (err_from_is_err_and _ c.from_residual-in_err-ensure-2.ensures.1) c.in_err-ensure-2.ensures
    (not_same c.requires (is-equal c.in_ok-ensure.ensures) c.same_written.ensures)

pub test_stands-requires : goal.test_stands-requires
test_stands-requires c = can-test c.requires (is-equal c.in_ok-ensure.ensures)

pub returns : goal.returns
returns c =
    rw c.ensure-3.ensures
    (while-comes c.requires (is-equal c.in_ok-ensure.ensures) c.same_written.ensures
    (ensured _ c.in_ok-ensure-2.ensures) c.test_stands.ensures)
