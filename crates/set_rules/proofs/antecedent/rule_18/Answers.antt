-- `set_rules::antecedent::rule_18` meets its contract.
-- Assumes nothing.
use Rattle.std.proofs.lemmas.Result.{err_from_is_err_and}
use Rattle.goals.proofs.Ensured.{is-equal, ensured, exits, exits-unequal}
use Rattle.set_rules.proofs.Antecedents.{can-same, can-imply, left-fails, right-fails, differ_fails, implied-rule}
use Rattle.set_rules.proofs.antecedent.rule_18.Goals as goal

pub returns-in_err-ensure : goal.returns-in_err-ensure
returns-in_err-ensure c =
    exits-unequal (err_from_is_err_and _ c.from_residual.ensures.1) c.in_err-ensure.ensures
    (left-fails c.requires c.count.ensures)

pub returns-in_err-ensure-2 : goal.returns-in_err-ensure-2
returns-in_err-ensure-2 c =
    exits-unequal (err_from_is_err_and _ c.from_residual-in_err-ensure-2.ensures.1) c.in_err-ensure-2.ensures
    (right-fails c.requires c.count.ensures (is-equal c.in_ok-ensure.ensures) c.count-2.ensures)

pub is_same_consequent-requires : goal.is_same_consequent-requires
is_same_consequent-requires c =
    can-same c.requires c.count.ensures (is-equal c.in_ok-ensure.ensures) c.count-2.ensures (is-equal c.in_ok-ensure-2.ensures)
    c.end_or_zero-e.ensures c.end_or_zero-f.ensures

pub returns-in_err-ensure-3 : goal.returns-in_err-ensure-3
returns-in_err-ensure-3 c =
    exits (err_from_is_err_and _ c.from_residual-in_err-ensure-3.ensures.1) c.in_err-ensure-3.ensures
    (differ_fails c.requires c.count.ensures (is-equal c.in_ok-ensure.ensures) c.count-2.ensures (is-equal c.in_ok-ensure-2.ensures) c.end_or_zero-e.ensures c.end_or_zero-f.ensures c.is_same_consequent.ensures)

pub implies_at-requires : goal.implies_at-requires
implies_at-requires c = can-imply c.requires c.count.ensures (is-equal c.in_ok-ensure.ensures) c.count-2.ensures (is-equal c.in_ok-ensure-2.ensures)

pub returns : goal.returns
returns c =
    implied-rule c.requires c.count.ensures (is-equal c.in_ok-ensure.ensures) c.count-2.ensures (is-equal c.in_ok-ensure-2.ensures)
    c.end_or_zero-e.ensures c.end_or_zero-f.ensures c.is_same_consequent.ensures (ensured _ c.in_ok-ensure-3.ensures)
    c.implies_at.ensures
