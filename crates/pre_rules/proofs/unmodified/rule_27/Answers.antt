-- `pre_rules::unmodified::rule_27` meets its contract.
-- Assumes nothing.
use Rattle.std.proofs.lemmas.Result.{err_from_is_err_and}
use Rattle.goals.proofs.Ensured.{ensured, exits}
use Rattle.pre_compound.proofs.Goal.{first-boolean, second-boolean, first-known, command-known}
use Rattle.pre_rules.proofs.Modifies.{differs_fails, kept_rule}
use Rattle.pre_rules.proofs.unmodified.rule_27.Goals as goal

pub is_same_assertion-requires : goal.is_same_assertion-requires
is_same_assertion-requires c =
    let p = c.requires in
    record { ends_of = p.can.ends_of; first = first-boolean p; second = second-boolean p }

pub returns-in_err-ensure : goal.returns-in_err-ensure
returns-in_err-ensure c =
    exits (err_from_is_err_and _ c.from_residual.ensures.1) c.in_err-ensure.ensures
    (differs_fails c.requires c.is_same_assertion.ensures)

pub is_kept-requires : goal.is_kept-requires
is_kept-requires c =
    let p = c.requires in
    record { ends_of = p.can.ends_of; masks-of = c.args.file.now.masks_of; part = first-known p; command = command-known p }

pub returns : goal.returns
returns c =
    kept_rule c.requires c.is_same_assertion.ensures (ensured _ c.in_ok-ensure.ensures) c.is_kept.ensures
    c.ensure-2.ensures
