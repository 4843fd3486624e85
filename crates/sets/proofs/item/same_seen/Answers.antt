-- `sets::item::same_seen` meets its contract, by view.
-- Assumes nothing.
use Rattle.sets.proofs.Places.{member-pass}
use Rattle.sets.proofs.Items.{item-written, see, same-as}
use Rattle.sets.proofs.item.same_seen.Goals as goal

pub end_at-requires : goal.end_at-requires
end_at-requires c = let p = c.requires in (member-pass p.ends_of p.other).first

pub same_pair-requires : goal.same_pair-requires
same_pair-requires c = see c.requires (item-written _ _ _ _ c.end_at.ensures c.in-AsWritten.is)

pub seen_item-requires : goal.seen_item-requires
seen_item-requires c = let p = c.requires in (member-pass p.ends_of p.other).first

pub same_item-requires : goal.same_item-requires
same_item-requires c = see c.requires c.seen_item.ensures

pub returns-in-AsWritten : goal.returns-in-AsWritten
returns-in-AsWritten c = same-as _ _ (item-written _ _ _ _ c.end_at.ensures c.in-AsWritten.is) _ c.same_pair.ensures
