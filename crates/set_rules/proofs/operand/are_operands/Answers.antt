-- `set_rules::operand::are_operands` meets its contract, by the kind of E.
-- Assumes nothing.
use mathlib.Core.Path.{sym, ◌∙◌}
use native.Mathlib.Omega.{arith}
use Rattle.set_rules.proofs.Operands.{whole_in, can-one_same, first-known, can-two_same, one_split}
use Rattle.set_rules.proofs.Operands.{none-split, two-split}
use Rattle.set_rules.proofs.operand.are_operands.Goals as goal

pub offset_bounds-w-e : goal.offset_bounds-w-e
offset_bounds-w-e c = let i = whole_in c.requires in omega arith

pub bounds-w-e : goal.bounds-w-e
bounds-w-e c = whole_in c.requires

pub overflow_add-first : goal.overflow_add-first
overflow_add-first c = let can = c.requires in let i = whole_in can in let s = can.size in omega arith

pub same_set-requires : goal.same_set-requires
same_set-requires c = can-one_same c.requires c.if-kind-eq-NOT.true

pub returns-then-kind-eq-NOT : goal.returns-then-kind-eq-NOT
returns-then-kind-eq-NOT c = one_split c.requires.ends_of c.if-kind-eq-NOT.true c.same_set.ensures

pub returns-then-not-has_two : goal.returns-then-not-has_two
returns-then-not-has_two c = none-split c.requires.ends_of c.if-kind-eq-NOT.false c.has_two.ensures c.if-not-has_two.true

pub overflow_add-e : goal.overflow_add-e
overflow_add-e c =
    let can = c.requires in
    let i = whole_in can in
    let s = can.size in
    omega arith

pub end_at-next-requires : goal.end_at-next-requires
end_at-next-requires c =
    (first-known c.requires c.if-kind-eq-NOT.false (sym c.has_two.ensures ∙ c.if-not-has_two.false)).listed

pub same_set-requires-2 : goal.same_set-requires-2
same_set-requires-2 c =
    can-two_same c.requires c.if-kind-eq-NOT.false (sym c.has_two.ensures ∙ c.if-not-has_two.false)
    c.end_at-next.ensures

pub returns : goal.returns
returns c =
    two-split c.requires.ends_of c.if-kind-eq-NOT.false (sym c.has_two.ensures ∙ c.if-not-has_two.false)
    c.end_at-next.ensures c.same_set-2.ensures
