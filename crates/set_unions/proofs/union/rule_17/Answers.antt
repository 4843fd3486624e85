-- `set_unions::union::rule_17` meets its contract.
-- Assumes nothing.
use Rattle.set_unions.proofs.Unions.{can-rest, rest-rule}
use Rattle.set_unions.proofs.union.rule_17.Goals as goal

pub is_rest_union-requires : goal.is_rest_union-requires
is_rest_union-requires c =
    can-rest c.requires c.end_or_zero-s2.ensures
    c.end_or_zero-t.ensures

pub returns : goal.returns
returns c =
    rest-rule c.requires c.end_or_zero-s2.ensures c.end_or_zero-t.ensures c.is_rest_union.ensures
    c.ensure.ensures
