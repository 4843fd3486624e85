-- `compare::antecedent::same_split` meets its contract: both operands of an or.
-- Assumes nothing.
use mathlib.Core.Path.{refl}
use native.Mathlib.Omega.{arith}
use Rattle.compare.proofs.PlainForms.{boolean-known, start-inside}
use Rattle.compare.proofs.Formed.{of-split, can-true, with_and, with_and_not, or_left, or_right, or-other, or_no, or-on}
use Rattle.compare.proofs.antecedent.same_split.Goals as goal

pub plain_start-start-requires : goal.plain_start-start-requires
plain_start-start-requires c = let p = c.requires in can-true p.ends_of p.whole

pub offset_bounds-w-start : goal.offset_bounds-w-start
offset_bounds-w-start c =
    let p = c.requires in
    let q = of-split p.form-at refl in
    let x = c.plain_start-start.ensures in
    let i = start-inside p.ends_of x in
    omega arith

pub bounds-w-start : goal.bounds-w-start
bounds-w-start c =
    let p = c.requires in
    let q = of-split p.form-at refl in
    let x = c.plain_start-start.ensures in
    start-inside p.ends_of x

pub returns-then-w-start-ne-OR_WORD : goal.returns-then-w-start-ne-OR_WORD
returns-then-w-start-ne-OR_WORD c =
    let p = c.requires in
    let q = of-split p.form-at refl in
    let x = c.plain_start-start.ensures in
    or-other p.ends_of x _ _ c.if-w-start-ne-OR_WORD.true

pub overflow_add-start : goal.overflow_add-start
overflow_add-start c =
    let p = c.requires in
    let q = of-split p.form-at refl in
    let x = c.plain_start-start.ensures in
    let i = start-inside p.ends_of x in
    omega arith

pub same_and-requires : goal.same_and-requires
same_and-requires c =
    let p = c.requires in
    let q = of-split p.form-at refl in
    let x = c.plain_start-start.ensures in
    with_and p.ends_of (or_left p.ends_of x c.if-w-start-ne-OR_WORD.false) q.0 q.2

pub returns-then-not-same_and : goal.returns-then-not-same_and
returns-then-not-same_and c =
    let p = c.requires in
    let q = of-split p.form-at refl in
    let x = c.plain_start-start.ensures in
    or_no p.ends_of x _ _ c.if-w-start-ne-OR_WORD.false c.same_and.ensures c.if-not-same_and.true

pub overflow_add-start-2 : goal.overflow_add-start-2
overflow_add-start-2 c =
    let p = c.requires in
    let q = of-split p.form-at refl in
    let x = c.plain_start-start.ensures in
    let i = start-inside p.ends_of x in
    omega arith

pub end_at-requires : goal.end_at-requires
end_at-requires c =
    let p = c.requires in
    let q = of-split p.form-at refl in
    let x = c.plain_start-start.ensures in
    (boolean-known p.ends_of (or_left p.ends_of x c.if-w-start-ne-OR_WORD.false)).listed

pub same_and_not-requires : goal.same_and_not-requires
same_and_not-requires c =
    let p = c.requires in
    let q = of-split p.form-at refl in
    let x = c.plain_start-start.ensures in
    with_and_not p.ends_of (or_right p.ends_of x c.if-w-start-ne-OR_WORD.false c.end_at.ensures) q.1 q.2

pub returns : goal.returns
returns c =
    let p = c.requires in
    let q = of-split p.form-at refl in
    let x = c.plain_start-start.ensures in
    or-on p.ends_of x _ _ c.if-w-start-ne-OR_WORD.false c.same_and.ensures
    c.if-not-same_and.false c.end_at.ensures c.same_and_not.ensures
