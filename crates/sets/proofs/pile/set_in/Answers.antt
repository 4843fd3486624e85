-- `sets::pile::set_in` meets its contract.
-- Assumes nothing.
use Rattle.std.proofs.Common.{rules, tests, ◌∙◌}
use Rattle.std.proofs.lemmas.Iterator.Search.{all_from_yields_List}
use Rattle.sets.specs.Items.{written_halves}
use Rattle.sets.specs.Lists.{stands_in}
use Rattle.sets.specs.Piles.{piles_numbers, CanSearchAll}
use Rattle.sets.proofs.Steps.{start-passes, starts, each-member, within-each}
use Rattle.sets.proofs.pile.set_in.Goals as goal

pub all-requires-clause-can : goal.all-requires-clause-can
all-requires-clause-can c = start-passes c.new.ensures c.requires.members c.requires.ends_of

pub all-requires-clause-callable : goal.all-requires-clause-callable
all-requires-clause-callable c =
    let p = c.requires in
    each-member c.new.ensures p.members (λ x q h. search rules)
    (λ x m.
    let can : CanSearchAll c.args.w.now c.args.ends.now x c.args.piles.now = record { ends_of = p.ends_of; member = m; piles_at = p.piles_at } in
    search rules)

pub returns : goal.returns
returns c =
    let file = c.args.w.now in
    let ends = c.args.ends.now in
    all_from_yields_List (λ i. stands_in (written_halves file ends i) (piles_numbers file ends c.args.piles.now)) c.all.new.self _ c.all.result c.all.ensures.ran
    (starts c.new.ensures) (λ x b q k. search (rules, tests))
    ∙ within-each _ _ _ _ _ _
