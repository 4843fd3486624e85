-- `sets::item::seen_item` meets its contract, by view.
-- Assumes nothing.
use Rattle.sets.proofs.Items.{item-written, item-under, item-unless, item-replaced}
use Rattle.sets.proofs.item.seen_item.Goals as goal

pub returns-in-AsWritten : goal.returns-in-AsWritten
returns-in-AsWritten c = item-written _ _ _ _ c.end_at-middle.ensures c.in-AsWritten.is

pub returns-in-Under : goal.returns-in-Under
returns-in-Under c = item-under _ _ _ _ c.end_at-middle.ensures _ c.in-Under.is

pub returns-in-Unless : goal.returns-in-Unless
returns-in-Unless c = item-unless _ _ _ _ c.end_at-middle.ensures _ c.in-Unless.is

pub returns-in-Replaced : goal.returns-in-Replaced
returns-in-Replaced c = item-replaced _ _ _ _ c.end_at-middle.ensures _ c.in-Replaced.is
