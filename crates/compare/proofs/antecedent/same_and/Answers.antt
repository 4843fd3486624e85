-- `compare::antecedent::same_and` meets its contract: past a side that is true, or both operands of an and.
-- Assumes nothing.
use mathlib.Core.Path.{refl}
use native.Mathlib.Omega.{arith}
use Rattle.compare.proofs.PlainForms.{boolean-known, start-inside}
use Rattle.compare.proofs.PlainTests.{told_other}
use Rattle.compare.proofs.Formed.{of_and, two-written, can-true, and_first, and_second, and_left, and_right, and-other}
use Rattle.compare.proofs.Formed.{and_no, and-on}
use Rattle.compare.proofs.antecedent.same_and.Goals as goal

pub is_true-requires : goal.is_true-requires
is_true-requires c =
    let p = c.requires in
    let q = of_and p.form-at refl in
    can-true p.ends_of q.0

pub same_booleans-requires : goal.same_booleans-requires
same_booleans-requires c =
    let p = c.requires in
    let q = of_and p.form-at refl in
    two-written p.ends_of p.whole q.1

pub returns-then-is_true : goal.returns-then-is_true
returns-then-is_true c =
    let p = c.requires in
    let q = of_and p.form-at refl in
    and_first p.ends_of _ _ _ c.is_true.ensures c.if-is_true.true c.same_booleans.ensures

pub is_true-requires-2 : goal.is_true-requires-2
is_true-requires-2 c =
    let p = c.requires in
    let q = of_and p.form-at refl in
    can-true p.ends_of q.1

pub same_booleans-requires-then-is_true-2 : goal.same_booleans-requires-then-is_true-2
same_booleans-requires-then-is_true-2 c =
    let p = c.requires in
    let q = of_and p.form-at refl in
    two-written p.ends_of p.whole q.0

pub returns-then-is_true-2 : goal.returns-then-is_true-2
returns-then-is_true-2 c =
    let p = c.requires in
    let q = of_and p.form-at refl in
    and_second p.ends_of _ _ _ c.is_true.ensures c.if-is_true.false
    c.is_true-2.ensures c.if-is_true-2.true c.same_booleans-then-is_true-2.ensures

pub plain_start-start-requires : goal.plain_start-start-requires
plain_start-start-requires c =
    let p = c.requires in
    let q = of_and p.form-at refl in
    can-true p.ends_of p.whole

pub offset_bounds-w-start : goal.offset_bounds-w-start
offset_bounds-w-start c =
    let p = c.requires in
    let q = of_and p.form-at refl in
    let x = c.plain_start-start.ensures in
    let i = start-inside p.ends_of x in
    omega arith

pub bounds-w-start : goal.bounds-w-start
bounds-w-start c =
    let p = c.requires in
    let q = of_and p.form-at refl in
    let x = c.plain_start-start.ensures in
    start-inside p.ends_of x

pub returns-then-w-start-ne-AND_WORD : goal.returns-then-w-start-ne-AND_WORD
returns-then-w-start-ne-AND_WORD c =
    let p = c.requires in
    let q = of_and p.form-at refl in
    let x = c.plain_start-start.ensures in
    let h = told_other _ c.is_true.ensures c.if-is_true.false in
    let k = told_other _ c.is_true-2.ensures c.if-is_true-2.false in
    and-other p.ends_of x _ _ h k c.if-w-start-ne-AND_WORD.true

pub overflow_add-start : goal.overflow_add-start
overflow_add-start c =
    let p = c.requires in
    let q = of_and p.form-at refl in
    let x = c.plain_start-start.ensures in
    let i = start-inside p.ends_of x in
    omega arith

pub same_booleans-requires-2 : goal.same_booleans-requires-2
same_booleans-requires-2 c =
    let p = c.requires in
    let q = of_and p.form-at refl in
    let x = c.plain_start-start.ensures in
    two-written p.ends_of (and_left p.ends_of x c.if-w-start-ne-AND_WORD.false) q.0

pub returns-then-not-same_booleans : goal.returns-then-not-same_booleans
returns-then-not-same_booleans c =
    let p = c.requires in
    let q = of_and p.form-at refl in
    let x = c.plain_start-start.ensures in
    let h = told_other _ c.is_true.ensures c.if-is_true.false in
    let k = told_other _ c.is_true-2.ensures c.if-is_true-2.false in
    and_no p.ends_of x _ _ h k c.if-w-start-ne-AND_WORD.false c.same_booleans-2.ensures c.if-not-same_booleans.true

pub overflow_add-start-2 : goal.overflow_add-start-2
overflow_add-start-2 c =
    let p = c.requires in
    let q = of_and p.form-at refl in
    let x = c.plain_start-start.ensures in
    let i = start-inside p.ends_of x in
    omega arith

pub end_at-requires : goal.end_at-requires
end_at-requires c =
    let p = c.requires in
    let q = of_and p.form-at refl in
    let x = c.plain_start-start.ensures in
    (boolean-known p.ends_of (and_left p.ends_of x c.if-w-start-ne-AND_WORD.false)).listed

pub same_booleans-requires-3 : goal.same_booleans-requires-3
same_booleans-requires-3 c =
    let p = c.requires in
    let q = of_and p.form-at refl in
    let x = c.plain_start-start.ensures in
    two-written p.ends_of (and_right p.ends_of x c.if-w-start-ne-AND_WORD.false c.end_at.ensures) q.1

pub returns : goal.returns
returns c =
    let p = c.requires in
    let q = of_and p.form-at refl in
    let x = c.plain_start-start.ensures in
    let h = told_other _ c.is_true.ensures c.if-is_true.false in
    let k = told_other _ c.is_true-2.ensures c.if-is_true-2.false in
    and-on p.ends_of x _ _ h k c.if-w-start-ne-AND_WORD.false c.same_booleans-2.ensures
    c.if-not-same_booleans.false c.end_at.ensures c.same_booleans-3.ensures
