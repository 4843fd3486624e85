-- `sets::pile::in_pile` meets its contract, by pile.
-- Assumes nothing.
use mathlib.Core.Path.{refl}
use native.Mathlib.Omega.{arith}
use Rattle.sets.specs.Lists.{stands_in}
use Rattle.sets.proofs.Items.{pair_at}
use Rattle.sets.proofs.Piles.{pile_one, pile_set, pile_without, set-members}
use Rattle.sets.proofs.Piles.{of_one, of-set, of-without, stands_one}
use Rattle.sets.proofs.pile.in_pile.Goals as goal

pub same_pair-requires : goal.same_pair-requires
same_pair-requires c =
    let p = c.requires in
    let d = pile_one _ p.pile_at c.in-One.is in
    record { ends_of = p.ends_of; member = p.member; item-at = pair_at p.ends_of refl d.0 d.1 }

pub count-k-requires : goal.count-k-requires
count-k-requires c =
    let p = c.requires in
    let d = pile_set _ p.pile_at c.in-Set.is in
    d.0.inside

pub overflow_add-q : goal.overflow_add-q
overflow_add-q c =
    let p = c.requires in
    let d = pile_set _ p.pile_at c.in-Set.is in
    let i = d.0.inside in
    omega arith

pub in_seen-requires : goal.in_seen-requires
in_seen-requires c =
    let p = c.requires in
    let d = pile_set _ p.pile_at c.in-Set.is in
    record {
      ends_of = p.ends_of;
      member = p.member;
      members = set-members d.0 c.count-k.ensures;
      view_at = d.1;
    }

pub count-k-requires-in-Without : goal.count-k-requires-in-Without
count-k-requires-in-Without c =
    let p = c.requires in
    let d = pile_without _ p.pile_at c.in-Without.is in
    d.0.inside

pub count-l-requires : goal.count-l-requires
count-l-requires c =
    let p = c.requires in
    let d = pile_without _ p.pile_at c.in-Without.is in
    d.1.inside

pub overflow_add-s : goal.overflow_add-s
overflow_add-s c =
    let p = c.requires in
    let d = pile_without _ p.pile_at c.in-Without.is in
    let i = d.1.inside in
    omega arith

pub overflow_add-t : goal.overflow_add-t
overflow_add-t c =
    let p = c.requires in
    let d = pile_without _ p.pile_at c.in-Without.is in
    let i = d.0.inside in
    omega arith

pub in_rest-requires : goal.in_rest-requires
in_rest-requires c =
    let p = c.requires in
    let d = pile_without _ p.pile_at c.in-Without.is in
    record {
      ends_of = p.ends_of;
      member = p.member;
      members = set-members d.0 c.count-k-in-Without.ensures;
      listed = set-members d.1 c.count-l.ensures;
    }

pub returns-in-One : goal.returns-in-One
returns-in-One c = of_one _ _ (stands_in _) _ _ _ c.in-One.is (stands_one _ _ c.same_pair.ensures)

pub returns-in-Set : goal.returns-in-Set
returns-in-Set c = of-set _ _ (stands_in _) _ _ _ _ c.in-Set.is c.count-k.ensures c.in_seen.ensures

pub returns-in-Without : goal.returns-in-Without
returns-in-Without c =
    of-without _ _ (stands_in _) _ _ _ _ _ c.in-Without.is
    c.count-k-in-Without.ensures c.count-l.ensures c.in_rest.ensures
