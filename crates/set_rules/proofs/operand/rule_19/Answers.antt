-- `set_rules::operand::rule_19` meets its contract.
-- Assumes nothing.
use Rattle.std.proofs.lemmas.Result.{err_from_is_err_and}
use Rattle.goals.proofs.Ensured.{is-equal, exits-unequal}
use Rattle.set_rules.proofs.Operands.{can-split, apart-fails, split-rule}
use Rattle.set_rules.proofs.operand.rule_19.Goals as goal

pub returns-in_err-ensure : goal.returns-in_err-ensure
returns-in_err-ensure c =
    exits-unequal (err_from_is_err_and _ c.from_residual.ensures.1) c.in_err-ensure.ensures
    (apart-fails c.requires c.count.ensures)

pub are_operands-requires : goal.are_operands-requires
are_operands-requires c = can-split c.requires c.count.ensures (is-equal c.in_ok-ensure.ensures) c.end_or_zero-e.ensures

pub returns : goal.returns
returns c =
    split-rule c.requires c.count.ensures (is-equal c.in_ok-ensure.ensures) c.end_or_zero-e.ensures c.are_operands.ensures
    c.ensure-2.ensures
