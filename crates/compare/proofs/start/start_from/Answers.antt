-- `compare::start::start_from` meets its contract: the boolean there has the plain form, and a turn goes past a side that is true.
-- The measure is the words left.
-- Assumes nothing.
use mathlib.Core.Path.{refl}
use native.Mathlib.Omega.{arith}
use Rattle.compare.proofs.Starts.{descends_start, place_inside, other-settled, first-listed, second-boolean}
use Rattle.compare.proofs.Starts.{second-further, left-dropped, right-dropped, and-settled}
use Rattle.compare.proofs.Formed.{can-true}
use Rattle.compare.proofs.start.start_from.Goals as goal

pub loop-at-init : goal.loop-at-init
loop-at-init c = let p = c.requires in descends_start p.ends_of p.other p.whole

pub offset_bounds-w-at : goal.offset_bounds-w-at
offset_bounds-w-at c =
    let p = c.requires in
    let d = c.loop-at.invariant in
    let i = place_inside p.ends_of p.other d in
    omega arith

pub bounds-w-at : goal.bounds-w-at
bounds-w-at c =
    let p = c.requires in
    let d = c.loop-at.invariant in
    place_inside p.ends_of p.other d

pub overflow_add-at : goal.overflow_add-at
overflow_add-at c =
    let p = c.requires in
    let d = c.loop-at.invariant in
    let i = place_inside p.ends_of p.other d in
    omega arith

pub end_at-second-requires : goal.end_at-second-requires
end_at-second-requires c =
    let p = c.requires in
    let d = c.loop-at.invariant in
    first-listed p.ends_of p.other d c.loop-at-test.true refl

pub loop-at-smaller-then-second-other : goal.loop-at-smaller-then-second-other
loop-at-smaller-then-second-other c =
    let p = c.requires in
    let d = c.loop-at.invariant in
    let i = place_inside p.ends_of p.other d in
    let l = second-further p.ends_of p.other d c.loop-at-test.true c.end_at-second.ensures in
    omega arith

pub loop-at-preserved-then-second-other : goal.loop-at-preserved-then-second-other
loop-at-preserved-then-second-other c =
    let p = c.requires in
    let d = c.loop-at.invariant in
    left-dropped p.ends_of p.other d c.loop-at-test.true c.end_at-second.ensures c.if-second-other.true

pub is_true-requires : goal.is_true-requires
is_true-requires c =
    let p = c.requires in
    let d = c.loop-at.invariant in
    can-true p.ends_of (second-boolean p.ends_of p.other d c.loop-at-test.true c.end_at-second.ensures)

pub returns-else-is_true : goal.returns-else-is_true
returns-else-is_true c =
    let p = c.requires in
    let d = c.loop-at.invariant in
    and-settled p.ends_of p.other d c.loop-at-test.true c.end_at-second.ensures
    c.if-second-other.false c.is_true.ensures c.if-is_true.false

pub overflow_add-at-then-is_true : goal.overflow_add-at-then-is_true
overflow_add-at-then-is_true c =
    let p = c.requires in
    let d = c.loop-at.invariant in
    let i = place_inside p.ends_of p.other d in
    omega arith

pub loop-at-smaller : goal.loop-at-smaller
loop-at-smaller c =
    let p = c.requires in
    let d = c.loop-at.invariant in
    let i = place_inside p.ends_of p.other d in
    omega arith

pub loop-at-preserved : goal.loop-at-preserved
loop-at-preserved c =
    let p = c.requires in
    let d = c.loop-at.invariant in
    right-dropped p.ends_of p.other d c.loop-at-test.true c.end_at-second.ensures
    c.if-second-other.false c.is_true.ensures c.if-is_true.true

pub returns : goal.returns
returns c =
    let p = c.requires in
    let d = c.loop-at.invariant in
    other-settled p.ends_of p.other d c.loop-at-test.false
