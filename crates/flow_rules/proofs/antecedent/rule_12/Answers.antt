-- `flow_rules::antecedent::rule_12` meets its contract.
-- Assumes nothing.
use Rattle.std.proofs.lemmas.Result.{err_from_is_err_and}
use Rattle.goals.proofs.Ensured.{ensured, exits}
use Rattle.flow_rules.proofs.AntecedentRules.{can-first, can-second, under-fails, under-comes}
use Rattle.flow_rules.proofs.antecedent.rule_12.Goals as goal

pub same_under-requires : goal.same_under-requires
same_under-requires c = rw (c.end_or_zero-f.ensures, c.end_or_zero-s1.ensures) (can-first c.requires)

pub returns-in_err-ensure : goal.returns-in_err-ensure
returns-in_err-ensure c =
    exits (err_from_is_err_and _ c.from_residual.ensures.1) c.in_err-ensure.ensures
    (under-fails c.requires (rw (c.end_or_zero-f.ensures, c.end_or_zero-s1.ensures) at c.same_under.ensures))

pub same_under-requires-2 : goal.same_under-requires-2
same_under-requires-2 c =
    rw (c.end_or_zero-f1.ensures, c.end_or_zero-f.ensures, c.end_or_zero-s1.ensures) (can-second c.requires)

pub returns : goal.returns
returns c =
    rw c.ensure-2.ensures
    (under-comes c.requires
    (rw (c.end_or_zero-f.ensures, c.end_or_zero-s1.ensures) at c.same_under.ensures)
    (ensured _ c.in_ok-ensure.ensures)
    (rw (c.end_or_zero-f1.ensures, c.end_or_zero-f.ensures, c.end_or_zero-s1.ensures) at c.same_under-2.ensures))
