-- `sets::pile::piles_in` meets its contract.
-- Assumes nothing.
use Rattle.std.proofs.Common.{rules, tests, ◌∙◌}
use Rattle.std.proofs.lemmas.Iterator.{YieldsList-from_slice}
use Rattle.std.proofs.lemmas.Iterator.Search.{all_from_yields_List}
use Rattle.sets.specs.Lists.{within_all, written}
use Rattle.sets.specs.Piles.{pile_numbers, CanKeepPile}
use Rattle.sets.proofs.Piles.{each-pile, within-piles}
use Rattle.sets.proofs.pile.piles_in.Goals as goal

pub all-requires-clause-callable : goal.all-requires-clause-callable
all-requires-clause-callable c =
    let p = c.requires in
    each-pile _ _ p.piles_at (cc) (λ x q h. search rules)
    (λ x m.
    let can : CanKeepPile c.args.w.now c.args.ends.now x.now c.args.k c.args.at = record { ends_of = p.ends_of; members = p.members; pile_at = m } in
    search rules)

pub returns : goal.returns
returns c =
    let file = c.args.w.now in
    let ends = c.args.ends.now in
    all_from_yields_List (λ pile. within_all (pile_numbers file ends pile) (written file ends c.args.k c.args.at)) c.all.new.self _ c.all.result c.all.ensures.ran
    (YieldsList-from_slice c.args.piles.now cc) (λ x b q k. search (rules, tests))
    ∙ within-piles _ _ _ _
