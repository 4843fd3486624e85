-- `run::repeat::loop_test` meets its contract. Assumes nothing.
use borrow.Author.Rules.{rules}
use mathlib.Core.Path.{◌∙◌}
use native.Mathlib.Omega.{arith}
use lib.IntN.{pos}
use lib.ListN.{get_or}
use lib.Signed.{le_z}
use mir.Syntax.{w64}
use mir.Val.{SFits}
use Rattle.arithmetic.proofs.Signed.{held_two}
use Rattle.heads.proofs.Parts.{command-early}
use Rattle.run.proofs.Bodies.{by_kind, while-can, for-small}
use Rattle.run.proofs.Commands.{while-tests, for-tests}
use Rattle.run.proofs.repeat.loop_test.Goals as goal

pub overflow_add-at : goal.overflow_add-at
overflow_add-at c =
    let h = command-early c.requires.command in omega arith

pub eval_boolean-requires : goal.eval_boolean-requires
eval_boolean-requires c =
    while-can (by_kind c.requires c.in-Test.is)

pub bounds-scalars-q : goal.bounds-scalars-q
bounds-scalars-q c =
    let h = (for-small (by_kind c.requires c.in-Count.is)).0 in omega arith

pub bounds-scalars-m : goal.bounds-scalars-m
bounds-scalars-m c =
    let h = (for-small (by_kind c.requires c.in-Count.is)).1 in omega arith

pub returns-in-Test : goal.returns-in-Test
returns-in-Test c =
    while-tests (by_kind c.requires c.in-Test.is).head c.eval_boolean.ensures

pub returns-in-Count : goal.returns-in-Count
returns-in-Count c =
    let fq : SFits w64 (get_or c.args.scalars.now c.in-Count.q (pos 0)) = search rules in
    let fm : SFits w64 (get_or c.args.scalars.now c.in-Count.m (pos 0)) = search rules in
    for-tests (by_kind c.requires c.in-Count.is).head (c.at_most.ensures ∙ held_two le_z fq fm)
