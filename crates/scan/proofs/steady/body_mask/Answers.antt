-- `scan::steady::body_mask` meets its contract: by blocks, or word by word.
-- Assumes nothing.
use Rattle.ends.proofs.Marks.{marks-range}
use Rattle.scan.proofs.steady.body_mask.Goals as goal

pub returns-else-blocked : goal.returns-else-blocked
returns-else-blocked c = marks-range _ c.marks.ensures
