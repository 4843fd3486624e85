-- `sets::align::align_seen` meets its contract. The invariant: what is said of the members that are left on both sides is said of all.
-- Assumes nothing.
use Rattle.std.proofs.Common.{sym, subst}
use Rattle.sets.specs.Members.{StartsAt}
use Rattle.sets.specs.Aligned.{EachAt}
use Rattle.sets.proofs.Steps.{start-passes}
use Rattle.sets.proofs.Aligned.{each-starts, seen_start, seen-on, seen_end, parted_is}
use Rattle.sets.proofs.align.align_seen.Goals as goal

pub loop-a-init : goal.loop-a-init
loop-a-init c =
    let p = c.requires in
    let s = subst (StartsAt _ _ _) (sym c.into_iter-a-iterator.ensures.into_iter_gives) c.new-a-items.ensures in
    (start-passes s p.part p.ends_of, tt, each-starts _ s p.part, seen_start _ s p.part p.rest_at)

pub loop-a-preserved : goal.loop-a-preserved
loop-a-preserved c =
    let v = c.loop-a.invariant in
    let some = c.in-Some.ensures in
    let next = c.in_ok-i.ensures in (
      some.goes.keeps,
      tt,
      (subst (EachAt _ _) some.steps v.2).1,
      seen-on _ c.loop-a.a-iterator v.3 c.next.new.self some.steps next.steps next.goes.keeps c.same_seen.ensures c.if-not-same_seen.false,
    )

pub returns : goal.returns
returns c =
    let v = c.loop-a.invariant in
    record { does = parted_is v.3.rest_at (seen_end _ c.loop-a.a-iterator v.3 c.in-None.ensures.steps.0) }
