-- `implication::compile::compile` meets its contract: the pieces from k on are still to come. Assumes nothing.
use Rattle.std.proofs.lemmas.Result.{err_from_is_err_and}
use Rattle.implication.proofs.Walks.{walk_start, walk_end, walk-full, walk-mark, walk-old, walk-new, other-word}
use Rattle.implication.proofs.compile.compile.Goals as goal
use Rattle.implication.proofs.compile.compile.Goals.{in-Byte, in-Comparison, in-Some, in-None+in_ok-number-in-None}

pub loop-k-init : goal.loop-k-init
loop-k-init c = walk_start c.requires.0 c.requires.1

pub returns-in_err-number-in-None : goal.returns-in_err-number-in-None
returns-in_err-number-in-None c =
    let p = err_from_is_err_and c.from_residual.result c.from_residual.ensures.1 in
    let a = c.in_err-number-in-None.ensures in
    rw (p.1, p.2) (
      a.0,
      walk-full c.loop-k.invariant c.loop-k-test.true (other-word _ _ c.role_of.ensures c.in-Comparison.is)
          c.skip-next.ensures c.in-None.ensures a.1 a.2,
    )

pub loop-k-preserved : goal.loop-k-preserved
loop-k-preserved c =
    elim c.match-role_of.branch [
      | in-Byte w ↦
          rw (w.known-is, w.prog-is, w.next-is) (walk-mark c.loop-k.invariant c.loop-k-test.true w.in-Byte.ensures)
      | in-Comparison w ↦
          let high = other-word _ _ c.role_of.ensures w.in-Comparison.is in
          elim w.match-find.branch [
            | in-Some v ↦
                rw (w.known-is, w.prog-is, w.next-is, v.known-is, v.number-is)
                (walk-old c.loop-k.invariant c.loop-k-test.true high w.skip-next.ensures v.in-Some.ensures)
            | in-None+in_ok-number-in-None v ↦
                rw (w.known-is, w.prog-is, w.next-is, v.known-is, v.number-is)
                (walk-new c.loop-k.invariant c.loop-k-test.true high w.skip-next.ensures v.in-None.ensures
                v.in_ok-number-in-None.ensures)
          ]
    ]

pub returns : goal.returns
returns c = walk_end c.loop-k.invariant c.loop-k-test.false
