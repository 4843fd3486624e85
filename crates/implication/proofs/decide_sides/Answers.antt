-- `implication::decide_sides` meets its contract: both sides are compiled, then every block is tried. Assumes nothing.
use mathlib.Core.Path.{sym, ap}
use native.Mathlib.Omega.{arith}
use Rattle.std.proofs.lemmas.Result.{err_from_is_err_and}
use Rattle.rules.specs.Condition.{test}
use Rattle.implication.proofs.Answers.{first-can, left-full, second-can, right-full}
use Rattle.implication.proofs.Answers.{is-formula, answered, begun-start, begun-room}
use Rattle.implication.proofs.decide_sides.Goals as goal

pub compile_side-requires : goal.compile_side-requires
compile_side-requires c = first-can c.requires.0 c.new-known.ensures (begun-room c.args.prog.now _ c.requires.1)

pub returns-in_err-middle : goal.returns-in_err-middle
returns-in_err-middle c =
    let p = err_from_is_err_and c.from_residual.result c.from_residual.ensures.1 in
    let a = c.in_err-middle.ensures in
    rw (p.1, p.2, a.0) (left-full c.requires.0 c.new-known.ensures a.1)

pub compile_side-requires-2 : goal.compile_side-requires-2
compile_side-requires-2 c =
    second-can c.requires.0 c.new-known.ensures (begun-room c.args.prog.now _ c.requires.1) c.in_ok-middle.ensures

pub returns-in_err-len : goal.returns-in_err-len
returns-in_err-len c =
    let p = err_from_is_err_and c.from_residual-in_err-len.result c.from_residual-in_err-len.ensures.1 in
    let a = c.in_err-len.ensures in
    rw (p.1, p.2, a.0)
    (right-full c.requires.0 c.new-known.ensures (begun-room c.args.prog.now _ c.requires.1) c.in_ok-middle.ensures a.1)

pub every-requires : goal.every-requires
every-requires c = (
  is-formula c.requires.0 c.new-known.ensures (begun-room c.args.prog.now _ c.requires.1) c.in_ok-middle.ensures
      c.in_ok-len.ensures (begun-start c.args.prog.now (omega (arith, c.requires.1))),
  c.blocks-2.ensures.1,
)

pub returns-then-every : goal.returns-then-every
unfolding test
returns-then-every c =
    answered c.requires.0 c.new-known.ensures (begun-room c.args.prog.now _ c.requires.1) c.in_ok-middle.ensures
    c.in_ok-len.ensures (begun-start c.args.prog.now (omega (arith, c.requires.1)))
    (rw (← c.count.ensures) c.blocks-2.ensures.0) c.every.ensures (sym (ap test c.if-every.true))

pub returns-else-every : goal.returns-else-every
unfolding test
returns-else-every c =
    answered c.requires.0 c.new-known.ensures (begun-room c.args.prog.now _ c.requires.1) c.in_ok-middle.ensures
    c.in_ok-len.ensures (begun-start c.args.prog.now (omega (arith, c.requires.1)))
    (rw (← c.count.ensures) c.blocks-2.ensures.0) c.every.ensures (sym (ap test c.if-every.false))
