-- `implication::compile::compile_side` meets its contract: by the case of the side. Assumes nothing.
use Prim.Native.Nat.{◌+◌, ◌-◌}
use native.Mathlib.Omega.{arith}
use Rattle.std.proofs.lemmas.Result.{err_from_is_err_and}
use Rattle.implication.proofs.Pairs.{adds_none, adds_one, joint_and, joint_and_not, after_first}
use Rattle.implication.proofs.Pairs.{pair_full, pair_result, overfull_as, compiles_false}
use Rattle.implication.proofs.Pairs.{both_sides, both_not_sides, false_side, side_can}
use Rattle.implication.proofs.compile.compile_side.Goals as goal

pub returns-in_err-at-in-Both : goal.returns-in_err-at-in-Both
returns-in_err-at-in-Both c =
    let h = side_can c.in-Both.is c.requires in
    let p = err_from_is_err_and c.from_residual.result c.from_residual.ensures.1 in
    let u = adds_one c.args.prog.now c.args.len 18 (omega (arith, h.room)) in
    let a = c.in_err-at-in-Both.ensures in
    rw (c.in-Both.is, p.1, p.2)
    (a.0, overfull_as both_sides (pair_full joint_and u a.1))

pub returns-in_err-at-in-BothNot : goal.returns-in_err-at-in-BothNot
returns-in_err-at-in-BothNot c =
    let h = side_can c.in-BothNot.is c.requires in
    let p = err_from_is_err_and c.from_residual-in_err-at-in-BothNot.result c.from_residual-in_err-at-in-BothNot.ensures.1 in
    let u = adds_one c.args.prog.now c.args.len 18 (omega (arith, h.room)) in
    let a = c.in_err-at-in-BothNot.ensures in
    rw (c.in-BothNot.is, p.1, p.2)
    (a.0, overfull_as both_not_sides (pair_full joint_and_not u a.1))

pub returns-in_ok-at-in-Both : goal.returns-in_ok-at-in-Both
returns-in_ok-at-in-Both c =
    let h = side_can c.in-Both.is c.requires in
    let u = adds_one c.args.prog.now c.args.len 18 (omega (arith, h.room)) in
    let a = c.in_ok-at-in-Both.ensures in
    rw c.in-Both.is
    (pair_result joint_and u a (adds_none _ _) both_sides (1 + (c.in-Both.p - c.in-Both.a) + (c.in-Both.q - c.in-Both.b)) (omega arith) _ _ _ c.compile-in-Both-2.ensures)

pub returns-in_ok-at-in-BothNot : goal.returns-in_ok-at-in-BothNot
returns-in_ok-at-in-BothNot c =
    let h = side_can c.in-BothNot.is c.requires in
    let u = adds_one c.args.prog.now c.args.len 18 (omega (arith, h.room)) in
    let a = c.in_ok-at-in-BothNot.ensures in
    let r = after_first h u a 1 (omega arith) in
    let v = adds_one c.compile-in-BothNot.new.prog c.in_ok-at-in-BothNot.at 20 (omega arith) in
    rw c.in-BothNot.is
    (pair_result joint_and_not u a v both_not_sides
    (2 + (c.in-BothNot.p - c.in-BothNot.a) + (c.in-BothNot.q - c.in-BothNot.b)) (omega arith) _ _ _ c.compile-in-BothNot-2.ensures)

pub returns-in-False : goal.returns-in-False
returns-in-False c =
    let h = side_can c.in-False.is c.requires in
    rw c.in-False.is (compiles_false false_side h (omega arith))
