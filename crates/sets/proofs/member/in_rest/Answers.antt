-- `sets::member::in_rest` meets its contract.
-- Assumes nothing.
use Rattle.std.proofs.Common.{rules, tests, ◌∙◌}
use Rattle.std.proofs.lemmas.Iterator.Search.{any_from_yields_List}
use Rattle.std.proofs.Common.{not, ◌&&◌}
use Rattle.sets.specs.Items.{written_halves, same_halves}
use Rattle.sets.specs.Lists.{listed_in, written}
use Rattle.sets.specs.Standing.{CanLeave}
use Rattle.sets.proofs.Steps.{start-passes, starts, each-member, left-each}
use Rattle.sets.proofs.member.in_rest.Goals as goal

pub any-requires-clause-can : goal.any-requires-clause-can
any-requires-clause-can c = start-passes c.new.ensures c.requires.members c.requires.ends_of

pub any-requires-clause-callable : goal.any-requires-clause-callable
any-requires-clause-callable c =
    let p = c.requires in
    each-member c.new.ensures p.members (λ x q h. search rules)
    (λ x m.
    let can : CanLeave c.args.w.now c.args.ends.now c.args.x x c.args.l c.args.leave = record { ends_of = p.ends_of; member = p.member; other = m; listed = p.listed } in
    search rules)

pub returns : goal.returns
returns c =
    let file = c.args.w.now in
    let ends = c.args.ends.now in
    any_from_yields_List (λ i. same_halves (written_halves file ends c.args.x) (written_halves file ends i) && not (listed_in (written_halves file ends i) (written file ends c.args.l c.args.leave))) c.any.new.self _ c.any.result c.any.ensures.ran
    (starts c.new.ensures) (λ x b q k. search (rules, tests))
    ∙ left-each _ _ _ _ _ _ _
