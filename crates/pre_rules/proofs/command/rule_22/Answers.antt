-- `pre_rules::command::rule_22` meets its contract.
-- Assumes nothing.
use native.Mathlib.Omega.{arith}
use Rattle.std.proofs.lemmas.Result.{err_from_is_err_and}
use Rattle.goals.proofs.Ensured.{is-equal, exits-unequal}
use Rattle.pre_compound.proofs.Goal.{command-head, first-boolean, second-boolean}
use Rattle.pre_rules.proofs.Commands.{skip-fails, skip_rule}
use Rattle.pre_rules.proofs.command.rule_22.Goals as goal

pub offset_bounds-file-c : goal.offset_bounds-file-c
offset_bounds-file-c c = let i = command-head c.requires in omega arith

pub bounds-file-c : goal.bounds-file-c
bounds-file-c c = command-head c.requires

pub returns-in_err-ensure : goal.returns-in_err-ensure
returns-in_err-ensure c =
    exits-unequal (err_from_is_err_and _ c.from_residual.ensures.1) c.in_err-ensure.ensures (skip-fails c.requires)

pub is_same_assertion-requires : goal.is_same_assertion-requires
is_same_assertion-requires c =
    let p = c.requires in
    record { ends_of = p.can.ends_of; first = first-boolean p; second = second-boolean p }

pub returns : goal.returns
returns c = skip_rule c.requires (is-equal c.in_ok-ensure.ensures) c.is_same_assertion.ensures c.ensure-2.ensures
