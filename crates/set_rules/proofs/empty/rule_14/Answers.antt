-- `set_rules::empty::rule_14` meets its contract.
-- Assumes nothing.
use Rattle.context.proofs.Limits.{most-comparisons}
use Rattle.std.proofs.lemmas.Result.{err_from_is_err_and}
use Rattle.goals.proofs.Ensured.{is-equal, exits-unequal}
use Rattle.set_rules.proofs.EmptySets.{can-try_each, full-fails, each-rule}
use Rattle.set_rules.proofs.empty.rule_14.Goals as goal

pub returns-in_err-ensure : goal.returns-in_err-ensure
returns-in_err-ensure c =
    exits-unequal (err_from_is_err_and _ c.from_residual.ensures.1) c.in_err-ensure.ensures
    (full-fails c.requires c.count.ensures)

pub each_implies_false-requires : goal.each_implies_false-requires
each_implies_false-requires c = can-try_each c.requires (most-comparisons c.args.file.now.context _) c.count-k.ensures

pub returns : goal.returns
returns c =
    each-rule c.requires c.count.ensures (is-equal c.in_ok-ensure.ensures) (most-comparisons c.args.file.now.context _) c.count-k.ensures
    c.each_implies_false.ensures
