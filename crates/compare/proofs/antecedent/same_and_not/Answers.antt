-- `compare::antecedent::same_and_not` meets its contract: past φ if it is true, or both operands of an and.
-- Assumes nothing.
use mathlib.Core.Path.{refl}
use native.Mathlib.Omega.{arith}
use Rattle.compare.proofs.PlainForms.{boolean-known, start-inside}
use Rattle.compare.proofs.PlainTests.{told_other}
use Rattle.compare.proofs.Formed.{of_and-not, two-written, can-true, and_first, and_left, and_right, and-other, and_no, and-on}
use Rattle.compare.proofs.Formed.{not-true_not}
use Rattle.compare.proofs.antecedent.same_and_not.Goals as goal

pub is_true-requires : goal.is_true-requires
is_true-requires c =
    let p = c.requires in
    let q = of_and-not p.form-at refl in
    can-true p.ends_of q.0

pub same_not-requires : goal.same_not-requires
same_not-requires c =
    let p = c.requires in
    let q = of_and-not p.form-at refl in
    two-written p.ends_of p.whole q.1

pub returns-then-is_true : goal.returns-then-is_true
returns-then-is_true c =
    let p = c.requires in
    let q = of_and-not p.form-at refl in
    and_first p.ends_of _ _ _ c.is_true.ensures c.if-is_true.true c.same_not.ensures

pub plain_start-start-requires : goal.plain_start-start-requires
plain_start-start-requires c =
    let p = c.requires in
    let q = of_and-not p.form-at refl in
    can-true p.ends_of p.whole

pub offset_bounds-w-start : goal.offset_bounds-w-start
offset_bounds-w-start c =
    let p = c.requires in
    let q = of_and-not p.form-at refl in
    let x = c.plain_start-start.ensures in
    let i = start-inside p.ends_of x in
    omega arith

pub bounds-w-start : goal.bounds-w-start
bounds-w-start c =
    let p = c.requires in
    let q = of_and-not p.form-at refl in
    let x = c.plain_start-start.ensures in
    start-inside p.ends_of x

pub returns-then-w-start-ne-AND_WORD : goal.returns-then-w-start-ne-AND_WORD
returns-then-w-start-ne-AND_WORD c =
    let p = c.requires in
    let q = of_and-not p.form-at refl in
    let x = c.plain_start-start.ensures in
    let h = told_other _ c.is_true.ensures c.if-is_true.false in
    and-other p.ends_of x _ _ h (not-true_not _) c.if-w-start-ne-AND_WORD.true

pub overflow_add-start : goal.overflow_add-start
overflow_add-start c =
    let p = c.requires in
    let q = of_and-not p.form-at refl in
    let x = c.plain_start-start.ensures in
    let i = start-inside p.ends_of x in
    omega arith

pub same_booleans-requires : goal.same_booleans-requires
same_booleans-requires c =
    let p = c.requires in
    let q = of_and-not p.form-at refl in
    let x = c.plain_start-start.ensures in
    two-written p.ends_of (and_left p.ends_of x c.if-w-start-ne-AND_WORD.false) q.0

pub returns-then-not-same_booleans : goal.returns-then-not-same_booleans
returns-then-not-same_booleans c =
    let p = c.requires in
    let q = of_and-not p.form-at refl in
    let x = c.plain_start-start.ensures in
    let h = told_other _ c.is_true.ensures c.if-is_true.false in
    and_no p.ends_of x _ _ h (not-true_not _) c.if-w-start-ne-AND_WORD.false c.same_booleans.ensures
    c.if-not-same_booleans.true

pub overflow_add-start-2 : goal.overflow_add-start-2
overflow_add-start-2 c =
    let p = c.requires in
    let q = of_and-not p.form-at refl in
    let x = c.plain_start-start.ensures in
    let i = start-inside p.ends_of x in
    omega arith

pub end_at-requires : goal.end_at-requires
end_at-requires c =
    let p = c.requires in
    let q = of_and-not p.form-at refl in
    let x = c.plain_start-start.ensures in
    (boolean-known p.ends_of (and_left p.ends_of x c.if-w-start-ne-AND_WORD.false)).listed

pub same_not-requires-2 : goal.same_not-requires-2
same_not-requires-2 c =
    let p = c.requires in
    let q = of_and-not p.form-at refl in
    let x = c.plain_start-start.ensures in
    two-written p.ends_of (and_right p.ends_of x c.if-w-start-ne-AND_WORD.false c.end_at.ensures) q.1

pub returns : goal.returns
returns c =
    let p = c.requires in
    let q = of_and-not p.form-at refl in
    let x = c.plain_start-start.ensures in
    let h = told_other _ c.is_true.ensures c.if-is_true.false in
    and-on p.ends_of x _ _ h (not-true_not _) c.if-w-start-ne-AND_WORD.false
    c.same_booleans.ensures c.if-not-same_booleans.false c.end_at.ensures
    c.same_not-2.ensures
