-- `sets::member::rest_in` meets its contract.
-- Assumes nothing.
use Rattle.std.proofs.Common.{rules, tests, ◌∙◌}
use Rattle.std.proofs.lemmas.Iterator.Search.{all_from_yields_List}
use Rattle.std.proofs.Common.{◌||◌}
use Rattle.sets.specs.Items.{written_halves}
use Rattle.sets.specs.Lists.{stands_in, listed_in, written}
use Rattle.sets.specs.Standing.{CanEither}
use Rattle.sets.proofs.Steps.{start-passes, starts, each-member, rest-each}
use Rattle.sets.proofs.member.rest_in.Goals as goal

pub all-requires-clause-can : goal.all-requires-clause-can
all-requires-clause-can c = start-passes c.new.ensures c.requires.part c.requires.ends_of

pub all-requires-clause-callable : goal.all-requires-clause-callable
all-requires-clause-callable c =
    let p = c.requires in
    each-member c.new.ensures p.part (λ x q h. search rules)
    (λ x m.
    let can : CanEither c.args.w.now c.args.ends.now x c.args.l c.args.leave c.args.k c.args.at = record { ends_of = p.ends_of; member = m; listed = p.listed; members = p.members } in
    search rules)

pub returns : goal.returns
returns c =
    let file = c.args.w.now in
    let ends = c.args.ends.now in
    all_from_yields_List (λ i. stands_in (written_halves file ends i) (written file ends c.args.k c.args.at) || listed_in (written_halves file ends i) (written file ends c.args.l c.args.leave)) c.all.new.self _ c.all.result c.all.ensures.ran
    (starts c.new.ensures) (λ x b q k. search (rules, tests))
    ∙ rest-each _ _ _ _ _ _ _
