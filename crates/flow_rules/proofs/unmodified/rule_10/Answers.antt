-- `flow_rules::unmodified::rule_10` meets its contract.
-- Assumes nothing.
use Rattle.std.proofs.lemmas.Result.{err_from_is_err_and}
use Rattle.goals.proofs.Ensured.{ensured, exits}
use Rattle.flow_compound.proofs.Goal.{can-two}
use Rattle.flow_rules.proofs.UnmodifiedRules.{can-keep_set, not_same, set-kept}
use Rattle.flow_rules.proofs.unmodified.rule_10.Goals as goal

pub same_written-requires : goal.same_written-requires
same_written-requires c = can-two c.requires.can

pub returns-in_err-ensure : goal.returns-in_err-ensure
returns-in_err-ensure c =
    exits (err_from_is_err_and _ c.from_residual.ensures.1) c.in_err-ensure.ensures
    (not_same c.requires c.same_written.ensures)

pub is_kept-requires : goal.is_kept-requires
is_kept-requires c = can-keep_set c.requires c.args.file.now.masks_of

pub returns : goal.returns
returns c =
    rw c.ensure-2.ensures
    (set-kept c.requires c.same_written.ensures (ensured _ c.in_ok-ensure.ensures) c.is_kept.ensures)
