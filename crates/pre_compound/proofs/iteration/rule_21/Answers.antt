-- `pre_compound::iteration::rule_21` meets its contract.
-- Assumes nothing.
use native.Mathlib.Omega.{arith}
use Rattle.std.proofs.lemmas.Result.{err_from_is_err_and}
use Rattle.context.proofs.Limits.{most-comparisons}
use Rattle.goals.proofs.Ensured.{is-equal, exits-unequal}
use Rattle.pre_compound.proofs.Goal.{command-head}
use Rattle.pre_compound.proofs.Iterations.{while-fails, can-repeat, while-rule}
use Rattle.pre_compound.proofs.iteration.rule_21.Goals as goal

pub offset_bounds-file-c : goal.offset_bounds-file-c
offset_bounds-file-c c = let i = command-head c.requires in omega arith

pub bounds-file-c : goal.bounds-file-c
bounds-file-c c = command-head c.requires

pub returns-in_err-ensure : goal.returns-in_err-ensure
returns-in_err-ensure c =
    exits-unequal (err_from_is_err_and _ c.from_residual.ensures.1) c.in_err-ensure.ensures (while-fails c.requires)

pub repeats-requires : goal.repeats-requires
repeats-requires c =
    can-repeat c.requires (is-equal c.in_ok-ensure.ensures) (most-comparisons c.args.file.now.context _)

pub returns : goal.returns
returns c =
    while-rule c.requires (is-equal c.in_ok-ensure.ensures) (most-comparisons c.args.file.now.context _)
    c.repeats.ensures
