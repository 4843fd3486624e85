-- `truth_table::block` meets its contract: the stack holds what the bytes from i on give in each lane. Assumes nothing.
use mathlib.Core.Path.{refl}
use native.Mathlib.Omega.{arith}
use Rattle.truth_table.proofs.Lanes.{four-lanes, lanes_begin, lanes_finish, lanes_room, lanes_top}
use Rattle.truth_table.proofs.Lanes.{lanes_push, lanes_flip, lanes_meet, lanes_join}
use Rattle.truth_table.proofs.block.Goals as goal

pub loop-i-init : goal.loop-i-init
loop-i-init c = lanes_begin c.requires

pub bounds-stack-top : goal.bounds-stack-top
bounds-stack-top c =
    let s = c.loop-i.invariant in
    let h = lanes_room s c.requires.formula c.loop-i-test.true c.if-op-lt-AND.true in
    omega (arith, s.size)

pub loop-i-preserved-then-op-lt-AND : goal.loop-i-preserved-then-op-lt-AND
loop-i-preserved-then-op-lt-AND c =
    lanes_push c.loop-i.invariant c.requires.formula c.loop-i-test.true c.if-op-lt-AND.true

pub loop-i-preserved-then-op-eq-NOT : goal.loop-i-preserved-then-op-eq-NOT
loop-i-preserved-then-op-eq-NOT c =
    lanes_flip c.loop-i.invariant c.requires.formula c.loop-i-test.true c.if-op-eq-NOT.true
    (four-lanes _ refl refl refl refl)

pub overflow_sub-top : goal.overflow_sub-top
overflow_sub-top c =
    lanes_top c.loop-i.invariant c.requires.formula c.loop-i-test.true c.if-op-lt-AND.false c.if-op-eq-NOT.false

pub slice_copy_out-below : goal.slice_copy_out-below
slice_copy_out-below c =
    let s = c.loop-i.invariant in
    let h = lanes_top s c.requires.formula c.loop-i-test.true c.if-op-lt-AND.false c.if-op-eq-NOT.false in
    omega (arith, s.size, s.low)

pub loop-i-preserved-then-op-eq-AND : goal.loop-i-preserved-then-op-eq-AND
loop-i-preserved-then-op-eq-AND c =
    lanes_meet c.loop-i.invariant c.requires.formula c.loop-i-test.true c.if-op-lt-AND.false c.if-op-eq-NOT.false
    c.if-op-eq-AND.true (four-lanes _ refl refl refl refl)

pub loop-i-preserved : goal.loop-i-preserved
loop-i-preserved c =
    lanes_join c.loop-i.invariant c.requires.formula c.loop-i-test.true c.if-op-lt-AND.false c.if-op-eq-NOT.false
    c.if-op-eq-AND.false (four-lanes _ refl refl refl refl)

pub returns : goal.returns
returns c = lanes_finish c.loop-i.invariant (omega arith)
