-- `set_rules::empty::rule_15` meets its contract.
-- Assumes nothing.
use Rattle.std.proofs.lemmas.Result.{err_from_is_err_and}
use Rattle.goals.proofs.Ensured.{is-equal, exits-unequal}
use Rattle.set_rules.proofs.EmptySets.{one-starts, some-fails, many-fails, closed_rule}
use Rattle.set_rules.proofs.empty.rule_15.Goals as goal

pub returns-in_err-ensure : goal.returns-in_err-ensure
returns-in_err-ensure c =
    exits-unequal (err_from_is_err_and _ c.from_residual.ensures.1) c.in_err-ensure.ensures
    (some-fails c.requires c.count.ensures)

pub returns-in_err-ensure-2 : goal.returns-in_err-ensure-2
returns-in_err-ensure-2 c =
    exits-unequal (err_from_is_err_and _ c.from_residual-in_err-ensure-2.ensures.1) c.in_err-ensure-2.ensures
    (many-fails c.requires c.count.ensures (is-equal c.in_ok-ensure.ensures) c.count-2.ensures)

pub closed_at-requires : goal.closed_at-requires
closed_at-requires c =
    one-starts c.requires c.count.ensures (is-equal c.in_ok-ensure.ensures) c.count-2.ensures (is-equal c.in_ok-ensure-2.ensures)
    c.end_or_zero-e.ensures

pub returns : goal.returns
returns c =
    closed_rule c.requires c.count.ensures (is-equal c.in_ok-ensure.ensures) c.count-2.ensures (is-equal c.in_ok-ensure-2.ensures)
    c.end_or_zero-e.ensures c.closed_at.ensures c.ensure-3.ensures
