-- `set_unions::union::rule_16` meets its contract, by the two tests.
-- Assumes nothing.
use Rattle.std.proofs.lemmas.Result.{err_from_is_err_and}
use Rattle.goals.proofs.Ensured.{ensured, exits}
use Rattle.set_unions.proofs.Unions.{can-first, can-second, first-fails, union_rule}
use Rattle.set_unions.proofs.union.rule_16.Goals as goal

pub same_union-requires : goal.same_union-requires
same_union-requires c = can-first c.requires c.end_or_zero-s2.ensures c.end_or_zero-t.ensures c.end_or_zero-t2.ensures

pub returns-in_err-ensure : goal.returns-in_err-ensure
returns-in_err-ensure c =
    exits (err_from_is_err_and _ c.from_residual.ensures.1) c.in_err-ensure.ensures
    (first-fails c.requires c.end_or_zero-s2.ensures c.end_or_zero-t.ensures c.end_or_zero-t2.ensures c.same_union.ensures)

pub same_union-requires-2 : goal.same_union-requires-2
same_union-requires-2 c = can-second c.requires c.end_or_zero-s2.ensures c.end_or_zero-t.ensures c.end_or_zero-t2.ensures

pub returns : goal.returns
returns c =
    union_rule c.requires c.end_or_zero-s2.ensures c.end_or_zero-t.ensures c.end_or_zero-t2.ensures
    c.same_union.ensures (ensured _ c.in_ok-ensure.ensures) c.same_union-2.ensures c.ensure-2.ensures
