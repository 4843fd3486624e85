-- `sets::item::same_item` meets its contract, half by half.
-- Assumes nothing.
use Rattle.sets.proofs.Places.{antecedent-any, consequent-any, any-known}
use Rattle.sets.proofs.Items.{item-not, item-so}
use Rattle.sets.proofs.item.same_item.Goals as goal

pub end_at-middle-requires : goal.end_at-middle-requires
end_at-middle-requires c = (any-known c.requires.ends_of (antecedent-any c.requires.member)).listed

pub same_consequent-requires : goal.same_consequent-requires
same_consequent-requires c =
    let p = c.requires in
    record {
      whole = any-known p.ends_of (consequent-any p.member c.end_at-middle.ensures);
      form-at = p.item-at.consequent-at;
    }

pub returns-then-not-same_consequent : goal.returns-then-not-same_consequent
returns-then-not-same_consequent c =
    item-not _ _ _ _ _ c.end_at-middle.ensures c.same_consequent.ensures c.if-not-same_consequent.true

pub returns : goal.returns
returns c =
    item-so _ _ _ _ _ c.end_at-middle.ensures c.same_consequent.ensures c.if-not-same_consequent.false
    c.same_antecedent.ensures
