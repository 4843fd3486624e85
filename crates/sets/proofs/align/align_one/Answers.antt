-- `sets::align::align_one` meets its contract.
-- Assumes nothing.
use Rattle.std.proofs.Common.{refl, sym, ◌∙◌}
use Rattle.sets.proofs.Items.{pair_at}
use Rattle.sets.proofs.Aligned.{rest-first, part_one}
use Rattle.sets.proofs.align.align_one.Goals as goal

pub same_pair-requires : goal.same_pair-requires
same_pair-requires c =
    let p = c.requires in
    record {
      ends_of = p.ends_of;
      member = rest-first p.rest_at c.in_ok-i.ensures.steps;
      item-at = pair_at p.ends_of refl p.antecedent p.consequent;
    }

pub returns : goal.returns
returns c =
    let next = c.in_ok-i.ensures in
    record { does = part_one c.requires.rest_at next.steps next.goes.keeps (sym c.same_pair.ensures ∙ c.if-not-same_pair.false) }
