-- `implication::comparisons::same_range` meets its contract: ranges that are as long are compared word by word.
-- Assumes nothing.
use Rattle.std.proofs.Common.{rules, tests}
use Rattle.std.proofs.lemmas.Iterator.{YieldsList-from_slice, YieldsList-from_zip, same_from_all}
use Rattle.std.specs.Prelude.{slice_range}
use Rattle.implication.proofs.Spans.{same_range, as_long}
use Rattle.implication.proofs.comparisons.same_range.Goals as goal

pub returns-then-b-a : goal.returns-then-b-a
returns-then-b-a c =
    same_range c.requires.0 c.requires.1
    (same_from_all c.all.new.self _ _ _ _ c.all.ensures.ran
    (YieldsList-from_zip (YieldsList-from_slice (slice_range c.args.w.now c.args.a c.args.b) cc)
    (YieldsList-from_slice (slice_range c.args.w.now c.args.p c.args.q) cc))
    (as_long c.args.w.now c.requires.0 c.requires.1 c.if-b-a.true) (λ x q k. search (rules, tests)) (λ x q k. search (rules, tests)))
