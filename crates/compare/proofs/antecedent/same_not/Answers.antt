-- `compare::antecedent::same_not` meets its contract: a not, and its operand.
-- Assumes nothing.
use native.Mathlib.Omega.{arith}
use Rattle.compare.proofs.PlainForms.{start-inside}
use Rattle.compare.proofs.Formed.{two-written, can-true, not-operand, not-other, not_on}
use Rattle.compare.proofs.antecedent.same_not.Goals as goal

pub plain_start-start-requires : goal.plain_start-start-requires
plain_start-start-requires c = let p = c.requires in can-true p.ends_of p.first

pub offset_bounds-w-start : goal.offset_bounds-w-start
offset_bounds-w-start c =
    let p = c.requires in
    let x = c.plain_start-start.ensures in
    let i = start-inside p.ends_of x in
    omega arith

pub bounds-w-start : goal.bounds-w-start
bounds-w-start c =
    let p = c.requires in
    let x = c.plain_start-start.ensures in
    start-inside p.ends_of x

pub returns-then-w-start-ne-NOT_WORD : goal.returns-then-w-start-ne-NOT_WORD
returns-then-w-start-ne-NOT_WORD c =
    let p = c.requires in
    let x = c.plain_start-start.ensures in
    not-other p.ends_of x _ c.if-w-start-ne-NOT_WORD.true

pub overflow_add-start : goal.overflow_add-start
overflow_add-start c =
    let p = c.requires in
    let x = c.plain_start-start.ensures in
    let i = start-inside p.ends_of x in
    omega arith

pub same_booleans-requires : goal.same_booleans-requires
same_booleans-requires c =
    let p = c.requires in
    let x = c.plain_start-start.ensures in
    two-written p.ends_of (not-operand p.ends_of x (omega arith)) p.second

pub returns : goal.returns
returns c =
    let p = c.requires in
    let x = c.plain_start-start.ensures in
    not_on p.ends_of x _ (omega arith) c.same_booleans.ensures
