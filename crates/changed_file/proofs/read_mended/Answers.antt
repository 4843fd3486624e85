-- `changed_file::read_mended` meets its contract: the table is mended; refusal 7 lets the words pass as before, or is tested.
-- Assumes nothing.
use mathlib.Core.Path.{refl}
use native.Mathlib.Omega.{arith}
use borrow.Author.Tests.{eq-eqb}
use Rattle.splice.proofs.ReadTo.{read-ends}
use Rattle.changed_file.proofs.Tables.{steadied-again}
use Rattle.changed_file.proofs.ChangedWords.{can-mend_table, same-again, apart-again, fors_again}
use Rattle.changed_file.proofs.read_mended.Goals as goal

pub offset_bounds-w-place : goal.offset_bounds-w-place
offset_bounds-w-place c =
    let pre = c.requires in
    let z = read-ends _ _ _ _ pre.1 in
    omega (arith, z.0, z.1, pre.0.room.size)

pub bounds-w-place : goal.bounds-w-place
bounds-w-place c =
    let pre = c.requires in
    let z = read-ends _ _ _ _ pre.1 in
    omega (arith, z.0, z.1)

pub stays-stay-requires : goal.stays-stay-requires
stays-stay-requires c =
    let pre = c.requires in
    record { room = pre.0.room.room }

pub mend-requires : goal.mend-requires
mend-requires c =
    let pre = c.requires in
    can-mend_table pre.0 pre.1 refl c.stays-stay.ensures

pub read_marked-requires : goal.read_marked-requires
read_marked-requires c =
    let pre = c.requires in
    (c.mend.ensures.marked, fors_again pre.0 pre.1)

pub returns-then-not-stay : goal.returns-then-not-stay
returns-then-not-stay c = steadied-again c.read_marked.ensures

pub returns-then-same : goal.returns-then-same
returns-then-same c =
    let pre = c.requires in
    same-again pre.0 pre.1 c.mend.ensures refl c.if-not-stay.false (eq-eqb _ _ c.if-same.true)

pub read_marked-requires-then-assigns_any : goal.read_marked-requires-then-assigns_any
read_marked-requires-then-assigns_any c =
    let pre = c.requires in
    (c.mend.ensures.marked, fors_again pre.0 pre.1)

pub returns-then-assigns_any : goal.returns-then-assigns_any
returns-then-assigns_any c = steadied-again c.read_marked-then-assigns_any.ensures

pub returns : goal.returns
returns c =
    let pre = c.requires in
    apart-again pre.0 pre.1 c.mend.ensures c.if-not-stay.false c.assigns_any.ensures c.if-assigns_any.false
