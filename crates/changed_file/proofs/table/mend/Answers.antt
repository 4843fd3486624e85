-- `changed_file::table::mend` meets its contract: the ends of the words that changed, and the masks of the procedures unless they stay.
-- Assumes nothing.
use native.Mathlib.Omega.{arith}
use Rattle.changed_file.proofs.Tables.{mended_masks, mended_stays}
use Rattle.changed_file.proofs.table.mend.Goals as goal

pub mend_ends-requires : goal.mend_ends-requires
mend_ends-requires c =
    let pre = c.requires in
    record {
      ordered = pre.order;
      inside = pre.inside;
      long = omega (arith, pre.room.room);
      small = omega (arith, pre.room.size);
      sized = λ at l h. pre.outside at h (λ _. l);
    }

pub returns-then-not-stay : goal.returns-then-not-stay
returns-then-not-stay c =
    let pre = c.requires in
    mended_masks pre c.mend_ends.ensures c.fill_masks.ensures c.if-not-stay.true

pub returns-else-not-stay : goal.returns-else-not-stay
returns-else-not-stay c =
    let pre = c.requires in
    mended_stays pre c.mend_ends.ensures c.if-not-stay.false
