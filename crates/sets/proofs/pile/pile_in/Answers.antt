-- `sets::pile::pile_in` meets its contract, by pile.
-- Assumes nothing.
use native.Mathlib.Omega.{arith}
use Rattle.sets.proofs.Items.{pair_at}
use Rattle.sets.proofs.Items.{has-as}
use Rattle.sets.proofs.Piles.{pile_one, pile_set, pile_without, set-members}
use Rattle.sets.proofs.Piles.{of_one, of-set, of-without, within-one, held_by}
use Rattle.sets.proofs.pile.pile_in.Goals as goal

pub has_item-requires : goal.has_item-requires
has_item-requires c =
    let p = c.requires in
    let d = pile_one _ p.pile_at c.in-One.is in
    record { ends_of = p.ends_of; members = p.members; item-at = pair_at p.ends_of c.pair_item.ensures d.0 d.1 }

pub count-j-requires : goal.count-j-requires
count-j-requires c =
    let p = c.requires in
    let d = pile_set _ p.pile_at c.in-Set.is in
    d.0.inside

pub overflow_add-q : goal.overflow_add-q
overflow_add-q c =
    let p = c.requires in
    let d = pile_set _ p.pile_at c.in-Set.is in
    let i = d.0.inside in
    omega arith

pub seen_in-requires : goal.seen_in-requires
seen_in-requires c =
    let p = c.requires in
    let d = pile_set _ p.pile_at c.in-Set.is in
    record {
      ends_of = p.ends_of;
      part = set-members d.0 c.count-j.ensures;
      view_at = d.1;
      members = p.members;
    }

pub count-j-requires-in-Without : goal.count-j-requires-in-Without
count-j-requires-in-Without c =
    let p = c.requires in
    let d = pile_without _ p.pile_at c.in-Without.is in
    d.0.inside

pub count-l-requires : goal.count-l-requires
count-l-requires c =
    let p = c.requires in
    let d = pile_without _ p.pile_at c.in-Without.is in
    d.1.inside

pub overflow_add-t : goal.overflow_add-t
overflow_add-t c =
    let p = c.requires in
    let d = pile_without _ p.pile_at c.in-Without.is in
    let i = d.0.inside in
    omega arith

pub overflow_add-s : goal.overflow_add-s
overflow_add-s c =
    let p = c.requires in
    let d = pile_without _ p.pile_at c.in-Without.is in
    let i = d.1.inside in
    omega arith

pub rest_in-requires : goal.rest_in-requires
rest_in-requires c =
    let p = c.requires in
    let d = pile_without _ p.pile_at c.in-Without.is in
    record {
      ends_of = p.ends_of;
      part = set-members d.0 c.count-j-in-Without.ensures;
      listed = set-members d.1 c.count-l.ensures;
      members = p.members;
    }

pub returns-in-One : goal.returns-in-One
returns-in-One c =
    of_one _ _ (held_by _) _ _ _ c.in-One.is
    (within-one _ _ (has-as _ _ c.pair_item.ensures _ c.has_item.ensures))

pub returns-in-Set : goal.returns-in-Set
returns-in-Set c = of-set _ _ (held_by _) _ _ _ _ c.in-Set.is c.count-j.ensures c.seen_in.ensures

pub returns-in-Without : goal.returns-in-Without
returns-in-Without c =
    of-without _ _ (held_by _) _ _ _ _ _ c.in-Without.is
    c.count-j-in-Without.ensures c.count-l.ensures c.rest_in.ensures
