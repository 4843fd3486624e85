-- `sets::member::is_left` meets its contract.
-- Assumes nothing.
use Rattle.sets.proofs.Items.{as_they_stand}
use Rattle.sets.proofs.member.is_left.Goals as goal

pub same_seen-requires : goal.same_seen-requires
same_seen-requires c =
    let p = c.requires in
    record { ends_of = p.ends_of; member = p.member; other = p.other; view_at = as_they_stand _ _ }

pub is_listed-requires : goal.is_listed-requires
is_listed-requires c =
    let p = c.requires in
    record { ends_of = p.ends_of; member = p.other; members = p.listed; view_at = as_they_stand _ _ }
