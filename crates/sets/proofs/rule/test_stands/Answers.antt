-- `sets::rule::test_stands` meets its contract.
-- Assumes nothing.
use Rattle.sets.proofs.Rules.{find_test, rule-test}
use Rattle.sets.proofs.rule.test_stands.Goals as goal

pub has_item-requires : goal.has_item-requires
has_item-requires c = let p = c.requires in find_test p c.count-k.ensures

pub returns : goal.returns
returns c =
    let p = c.requires in
    rule-test p.ends_of c.count-k.ensures c.has_item.ensures
