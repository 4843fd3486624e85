-- `pre_rules::pre_child` meets its contract: rules 20, 21, 23, 28, 30 and 32 alone have children.
-- Assumes nothing.
use Rattle.pre_compound.proofs.Goal.{is_32, low_word, low-place, child-of}
use Rattle.pre_rules.proofs.pre_child.Goals as goal

pub child_20-requires : goal.child_20-requires
child_20-requires c = let p = c.requires in let e = c.in-20.is in (low_word e p, low-place e p, child-of e p)

pub child_21-requires : goal.child_21-requires
child_21-requires c = let p = c.requires in let e = c.in-21.is in (low_word e p, low-place e p, child-of e p)

pub child_23-requires : goal.child_23-requires
child_23-requires c = let p = c.requires in let e = c.in-23.is in (low_word e p, low-place e p, child-of e p)

pub child_28-requires : goal.child_28-requires
child_28-requires c = let p = c.requires in let e = c.in-28.is in (low_word e p, child-of e p)

pub child_30-requires : goal.child_30-requires
child_30-requires c = let p = c.requires in let e = c.in-30.is in (low_word e p, child-of e p)

pub child_32-requires : goal.child_32-requires
child_32-requires c =
    let p = c.requires in
    let n = c.in_default.in_default-own.rest in
    let e = is_32 p n.0.0.0.0.1 n.0.0.0.1 n.0.0.1 n.0.1 n.1 in
    (p.size, p.command, child-of e p)

pub returns-in_default : goal.returns-in_default
returns-in_default c =
    let n = c.in_default.in_default-own.rest in
    let e = is_32 c.requires n.0.0.0.0.1 n.0.0.0.1 n.0.0.1 n.0.1 n.1 in
    rw e c.child_32.ensures
