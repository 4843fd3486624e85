-- `flow_rules::unmodified::rule_11` meets its contract.
-- Assumes nothing.
use mathlib.Core.Path.{sym, ◌∙◌}
use Rattle.std.proofs.lemmas.Result.{err_from_is_err_and}
use Rattle.goals.proofs.Ensured.{ensured, is-equal, exits, exits-unequal}
use Rattle.flow_compound.proofs.Goal.{before_head, after-head}
use Rattle.flow_rules.proofs.UnmodifiedRules.{can-same, can-keep, not-one_before, not-one_after}
use Rattle.flow_rules.proofs.UnmodifiedRules.{other-consequent, consequent-kept}
use Rattle.flow_rules.proofs.unmodified.rule_11.Goals as goal

pub count-requires : goal.count-requires
count-requires c = before_head c.requires.can

pub returns-in_err-ensure : goal.returns-in_err-ensure
returns-in_err-ensure c =
    exits-unequal (err_from_is_err_and _ c.from_residual.ensures.1) c.in_err-ensure.ensures
    (λ n. not-one_before c.requires (λ e. n (c.count.ensures ∙ e)))

pub count-requires-2 : goal.count-requires-2
count-requires-2 c = after-head c.requires.can

pub returns-in_err-ensure-2 : goal.returns-in_err-ensure-2
returns-in_err-ensure-2 c =
    exits-unequal (err_from_is_err_and _ c.from_residual-in_err-ensure-2.ensures.1) c.in_err-ensure-2.ensures
    (λ n. not-one_after c.requires (sym c.count.ensures ∙ is-equal c.in_ok-ensure.ensures)
    (λ e. n (c.count-2.ensures ∙ e)))

pub is_same_consequent-requires : goal.is_same_consequent-requires
is_same_consequent-requires c =
    rw (c.end_or_zero-f.ensures, c.end_or_zero-e.ensures)
    (can-same c.requires (sym c.count.ensures ∙ is-equal c.in_ok-ensure.ensures)
    (sym c.count-2.ensures ∙ is-equal c.in_ok-ensure-2.ensures))

pub returns-in_err-ensure-3 : goal.returns-in_err-ensure-3
returns-in_err-ensure-3 c =
    exits (err_from_is_err_and _ c.from_residual-in_err-ensure-3.ensures.1) c.in_err-ensure-3.ensures
    (other-consequent c.requires (sym c.count.ensures ∙ is-equal c.in_ok-ensure.ensures)
    (sym c.count-2.ensures ∙ is-equal c.in_ok-ensure-2.ensures)
    (rw (c.end_or_zero-f.ensures, c.end_or_zero-e.ensures) at c.is_same_consequent.ensures))

pub is_kept-requires : goal.is_kept-requires
is_kept-requires c =
    can-keep c.requires (sym c.count.ensures ∙ is-equal c.in_ok-ensure.ensures) c.args.file.now.masks_of
    c.end_or_zero-e.ensures

pub returns : goal.returns
returns c =
    rw c.ensure-4.ensures
    (consequent-kept c.requires (sym c.count.ensures ∙ is-equal c.in_ok-ensure.ensures)
    (sym c.count-2.ensures ∙ is-equal c.in_ok-ensure-2.ensures)
    (rw (c.end_or_zero-f.ensures, c.end_or_zero-e.ensures) at c.is_same_consequent.ensures)
    (ensured _ c.in_ok-ensure-3.ensures)
    (rw c.end_or_zero-e.ensures at c.is_kept.ensures))
