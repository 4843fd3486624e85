-- `flowcheck::print_line` meets its contract: a write goes on where the last one stopped.
use Rattle.std.proofs.Common.{arith}
use Rattle.flowcheck.proofs.Known.{written-more}
use Rattle.flowcheck.proofs.print_line.Goals as goal

pub loop-from-preserved : goal.loop-from-preserved
loop-from-preserved g c = (
  omega (arith, c.write_from-taken.ensures.within),
  written-more _ _ _ _ _ _ c.loop-from.invariant.1 c.write_from-taken.ensures.written,
)
