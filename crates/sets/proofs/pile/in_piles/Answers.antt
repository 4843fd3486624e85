-- `sets::pile::in_piles` meets its contract.
-- Assumes nothing.
use Rattle.std.proofs.Common.{rules, tests, ◌∙◌}
use Rattle.std.proofs.lemmas.Iterator.{YieldsList-from_slice}
use Rattle.std.proofs.lemmas.Iterator.Search.{any_from_yields_List}
use Rattle.sets.specs.Items.{written_halves}
use Rattle.sets.specs.Lists.{stands_in}
use Rattle.sets.specs.Piles.{pile_numbers, CanSearch}
use Rattle.sets.proofs.Piles.{each-pile, stands-piles}
use Rattle.sets.proofs.pile.in_piles.Goals as goal

pub any-requires-clause-callable : goal.any-requires-clause-callable
any-requires-clause-callable c =
    let p = c.requires in
    each-pile _ _ p.piles_at (cc) (λ x q h. search rules)
    (λ x m.
    let can : CanSearch c.args.w.now c.args.ends.now c.args.x x.now = record { ends_of = p.ends_of; member = p.member; pile_at = m } in
    search rules)

pub returns : goal.returns
returns c =
    let file = c.args.w.now in
    let ends = c.args.ends.now in
    any_from_yields_List (λ pile. stands_in (written_halves file ends c.args.x) (pile_numbers file ends pile)) c.any.new.self _ c.any.result c.any.ensures.ran
    (YieldsList-from_slice c.args.piles.now cc) (λ x b q k. search (rules, tests))
    ∙ stands-piles _ _ _ _
