-- `judge::row::past_carried` meets its contract. The invariant: what is left stands past items that are carried.
-- Assumes nothing.
use mathlib.Core.Path.{sym, ◌∙◌}
use Rattle.judge.proofs.Carried.{past-start, past-step, past_stop, past_end}
use Rattle.judge.proofs.row.past_carried.Goals as goal

pub loop-i-init : goal.loop-i-init
loop-i-init c = past-start _ _ _

pub returns-then-not-is_carried : goal.returns-then-not-is_carried
returns-then-not-is_carried c =
    record { past = past_stop c.loop-i.invariant c.loop-i-test.true (sym c.is_carried.ensures ∙ c.if-not-is_carried.true) }

pub loop-i-preserved : goal.loop-i-preserved
loop-i-preserved c =
    past-step c.loop-i.invariant c.loop-i-test.true (sym c.is_carried.ensures ∙ c.if-not-is_carried.false)
    c.end_or_zero-next.ensures

pub returns : goal.returns
returns c = record { past = past_end c.loop-i.invariant c.loop-i-test.false }
