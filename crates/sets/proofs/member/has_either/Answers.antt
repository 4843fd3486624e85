-- `sets::member::has_either` meets its contract.
-- Assumes nothing.
use Rattle.sets.proofs.Places.{member-pass}
use Rattle.sets.proofs.Items.{written-item, as_they_stand}
use Rattle.sets.proofs.member.has_either.Goals as goal

pub seen_item-requires : goal.seen_item-requires
seen_item-requires c = let p = c.requires in (member-pass p.ends_of p.member).first

pub has_item-requires : goal.has_item-requires
has_item-requires c =
    let p = c.requires in
    record { ends_of = p.ends_of; members = p.members; item-at = written-item p.ends_of c.seen_item.ensures p.member }

pub is_listed-requires : goal.is_listed-requires
is_listed-requires c =
    let p = c.requires in
    record { ends_of = p.ends_of; member = p.member; members = p.listed; view_at = as_they_stand _ _ }
