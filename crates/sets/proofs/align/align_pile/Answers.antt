-- `sets::align::align_pile` meets its contract, by pile.
-- Assumes nothing.
use native.Mathlib.Omega.{arith}
use Rattle.sets.proofs.Piles.{pile_one, pile_set, set-members}
use Rattle.sets.proofs.Aligned.{of-pile_one, of-pile_set}
use Rattle.sets.proofs.align.align_pile.Goals as goal

pub align_one-requires : goal.align_one-requires
align_one-requires c =
    let p = c.requires in
    let d = pile_one _ p.pile_at c.in-One.is in
    record { ends_of = p.ends_of; rest_at = p.rest_at; antecedent = d.0; consequent = d.1 }

pub count-k-requires : goal.count-k-requires
count-k-requires c =
    let p = c.requires in
    (pile_set _ p.pile_at c.in-Set.is).0.inside

pub overflow_add-q : goal.overflow_add-q
overflow_add-q c =
    let p = c.requires in
    let i = (pile_set _ p.pile_at c.in-Set.is).0.inside in
    omega arith

pub align_seen-requires : goal.align_seen-requires
align_seen-requires c =
    let p = c.requires in
    let d = pile_set _ p.pile_at c.in-Set.is in
    record {
      ends_of = p.ends_of;
      rest_at = p.rest_at;
      part = set-members d.0 c.count-k.ensures;
      view_at = d.1;
    }

pub returns-in-One : goal.returns-in-One
returns-in-One c = of-pile_one _ _ _ c.in-One.is c.align_one.ensures

pub returns-in-Set : goal.returns-in-Set
returns-in-Set c = of-pile_set _ _ _ _ c.in-Set.is c.count-k.ensures c.align_seen.ensures
