-- `sets::item::same_words` meets its contract, half by half.
-- Assumes nothing.
use Rattle.sets.proofs.Places.{antecedent-any, consequent-any, any-known}
use Rattle.sets.proofs.Items.{words-not, words-so}
use Rattle.sets.proofs.item.same_words.Goals as goal

pub end_at-middle-requires : goal.end_at-middle-requires
end_at-middle-requires c = let p = c.requires in (any-known p.ends_of (antecedent-any p.member)).listed

pub end_at-requires : goal.end_at-requires
end_at-requires c = let p = c.requires in (any-known p.ends_of (antecedent-any p.other)).listed

pub same_parts-requires : goal.same_parts-requires
same_parts-requires c =
    let p = c.requires in (
      any-known p.ends_of (consequent-any p.member c.end_at-middle.ensures),
      any-known p.ends_of (consequent-any p.other c.end_at.ensures),
    )

pub returns-then-not-same_parts : goal.returns-then-not-same_parts
returns-then-not-same_parts c =
    let p = c.requires in
    words-not p.member p.other c.end_at-middle.ensures c.end_at.ensures c.same_parts.ensures
    c.if-not-same_parts.true

pub same_parts-requires-2 : goal.same_parts-requires-2
same_parts-requires-2 c =
    let p = c.requires in
    (any-known p.ends_of (antecedent-any p.member), any-known p.ends_of (antecedent-any p.other))

pub returns : goal.returns
returns c =
    let p = c.requires in
    words-so p.member p.other c.end_at-middle.ensures c.end_at.ensures c.same_parts.ensures
    c.if-not-same_parts.false c.same_parts-2.ensures
