-- `flow_rules::union::rule_9` meets its contract.
-- Assumes nothing.
use Rattle.std.proofs.lemmas.Result.{err_from_is_err_and}
use Rattle.goals.proofs.Ensured.{ensured, exits}
use Rattle.flow_rules.proofs.UnionRules.{can-first, can-second, union_fails, union_comes}
use Rattle.flow_rules.proofs.union.rule_9.Goals as goal

pub same_union-requires : goal.same_union-requires
same_union-requires c = rw (c.end_or_zero-t.ensures, c.end_or_zero-s1.ensures) (can-first c.requires)

pub returns-in_err-ensure : goal.returns-in_err-ensure
returns-in_err-ensure c =
    exits (err_from_is_err_and _ c.from_residual.ensures.1) c.in_err-ensure.ensures
    (union_fails c.requires (rw (c.end_or_zero-t.ensures, c.end_or_zero-s1.ensures) at c.same_union.ensures))

pub same_union-requires-2 : goal.same_union-requires-2
same_union-requires-2 c =
    rw (c.end_or_zero-t1.ensures, c.end_or_zero-t.ensures, c.end_or_zero-s1.ensures) (can-second c.requires)

pub returns : goal.returns
returns c =
    rw c.ensure-2.ensures
    (union_comes c.requires
    (rw (c.end_or_zero-t.ensures, c.end_or_zero-s1.ensures) at c.same_union.ensures)
    (ensured _ c.in_ok-ensure.ensures)
    (rw (c.end_or_zero-t1.ensures, c.end_or_zero-t.ensures, c.end_or_zero-s1.ensures) at c.same_union-2.ensures))
