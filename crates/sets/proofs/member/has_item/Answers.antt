-- `sets::member::has_item` meets its contract.
-- Assumes nothing.
use Rattle.std.proofs.Common.{rules, tests, ◌∙◌}
use Rattle.std.proofs.lemmas.Iterator.Search.{any_from_yields_List}
use Rattle.sets.specs.Items.{item_halves, written_halves, same_halves}
use Rattle.sets.specs.Standing.{CanCompare}
use Rattle.sets.proofs.Steps.{start-passes, starts, each-member, found-each}
use Rattle.sets.proofs.member.has_item.Goals as goal

pub any-requires-clause-can : goal.any-requires-clause-can
any-requires-clause-can c = start-passes c.new.ensures c.requires.members c.requires.ends_of

pub any-requires-clause-callable : goal.any-requires-clause-callable
any-requires-clause-callable c =
    let p = c.requires in
    each-member c.new.ensures p.members (λ x q h. search rules)
    (λ x m.
    let can : CanCompare c.args.w.now c.args.ends.now x c.args.item = record { ends_of = p.ends_of; member = m; item-at = p.item-at } in
    search rules)

pub returns : goal.returns
returns c =
    let file = c.args.w.now in
    let ends = c.args.ends.now in
    any_from_yields_List (λ i. same_halves (written_halves file ends i) (item_halves file ends c.args.item)) c.any.new.self _ c.any.result c.any.ensures.ran
    (starts c.new.ensures) (λ x b q k. search (rules, tests))
    ∙ found-each _ _ _ _ _ _
