-- `sets::item::same_pair` meets its contract, half by half.
-- Assumes nothing.
use mathlib.Core.Path.{refl}
use Rattle.compare.proofs.Forms.{of-verbatim, consequent-written}
use Rattle.compare.proofs.Formed.{of-written, two-written, by_written}
use Rattle.sets.proofs.Places.{antecedent-any, consequent-any, any-known}
use Rattle.sets.proofs.Items.{item-not, item-so}
use Rattle.sets.proofs.item.same_pair.Goals as goal

pub end_at-middle-requires : goal.end_at-middle-requires
end_at-middle-requires c = (any-known c.requires.ends_of (antecedent-any c.requires.member)).listed

pub same_parts-requires : goal.same_parts-requires
same_parts-requires c =
    let p = c.requires in
    (any-known p.ends_of (consequent-any p.member c.end_at-middle.ensures), of-verbatim p.item-at.consequent-at refl)

pub returns-then-not-same_parts : goal.returns-then-not-same_parts
returns-then-not-same_parts c =
    let p = c.requires in
    item-not _ _ _ _ _ c.end_at-middle.ensures
    (consequent-written _ _ _ (any-known p.ends_of (consequent-any p.member c.end_at-middle.ensures)) _ _ refl
    c.same_parts.ensures) c.if-not-same_parts.true

pub same_booleans-requires : goal.same_booleans-requires
same_booleans-requires c =
    let p = c.requires in
    two-written p.ends_of p.member.antecedent (of-written p.item-at.antecedent-at refl)

pub returns : goal.returns
returns c =
    let p = c.requires in
    item-so _ _ _ _ _ c.end_at-middle.ensures
    (consequent-written _ _ _ (any-known p.ends_of (consequent-any p.member c.end_at-middle.ensures)) _ _ refl
    c.same_parts.ensures) c.if-not-same_parts.false
    (by_written _ _ _ _ refl c.same_booleans.ensures)
