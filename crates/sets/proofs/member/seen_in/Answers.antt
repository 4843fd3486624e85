-- `sets::member::seen_in` meets its contract.
-- Assumes nothing.
use Rattle.std.proofs.Common.{rules, tests, ◌∙◌}
use Rattle.std.proofs.lemmas.Iterator.Search.{all_from_yields_List}
use Rattle.std.proofs.Common.{◌<◌, length}
use Rattle.sets.specs.Items.{seen_as, seen_item}
use Rattle.sets.specs.Lists.{stands_in, written}
use Rattle.sets.specs.Standing.{CanFind}
use Rattle.sets.proofs.Places.{member-pass}
use Rattle.sets.proofs.Items.{seen-view}
use Rattle.sets.proofs.Steps.{start-passes, starts, each-member, within-each}
use Rattle.sets.proofs.member.seen_in.Goals as goal

pub all-requires-clause-can : goal.all-requires-clause-can
all-requires-clause-can c = start-passes c.new.ensures c.requires.part c.requires.ends_of

pub all-requires-clause-callable : goal.all-requires-clause-callable
all-requires-clause-callable c =
    let p = c.requires in
    each-member c.new.ensures p.part (λ x q h. search rules)
    (λ x m.
    let can_see : x < length c.args.ends.now = (member-pass p.ends_of m).first in
    let can : CanFind c.args.w.now c.args.ends.now c.args.k c.args.at (seen_item c.args.ends.now c.args.view x) =
    record { ends_of = p.ends_of; members = p.members; item-at = seen-view p.ends_of c.args.view m p.view_at } in
    search rules)

pub returns : goal.returns
returns c =
    let file = c.args.w.now in
    let ends = c.args.ends.now in
    all_from_yields_List (λ i. stands_in (seen_as file ends c.args.view i) (written file ends c.args.k c.args.at)) c.all.new.self _ c.all.result c.all.ensures.ran
    (starts c.new.ensures) (λ x b q k. search (rules, tests))
    ∙ within-each _ _ _ _ _ _
