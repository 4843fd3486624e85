-- `compare::start::plain_start` meets its contract: an and may drop its first word.
-- Assumes nothing.
use native.Mathlib.Omega.{arith}
use Rattle.compare.proofs.Starts.{boolean-inside, from-other}
use Rattle.compare.proofs.start.plain_start.Goals as goal

pub offset_bounds-w-f : goal.offset_bounds-w-f
offset_bounds-w-f c = let p = c.requires in let i = boolean-inside p.ends_of p.whole in omega arith

pub bounds-w-f : goal.bounds-w-f
bounds-w-f c = let p = c.requires in boolean-inside p.ends_of p.whole

pub returns-then-w-f-ne-AND_WORD : goal.returns-then-w-f-ne-AND_WORD
returns-then-w-f-ne-AND_WORD c = let p = c.requires in from-other p.ends_of p.whole c.if-w-f-ne-AND_WORD.true
