-- `flowcheck::input::read_input` meets its contract: a read goes on where the last one ended.
use Rattle.std.proofs.Common.{rules}
use Rattle.flowcheck.proofs.Known.{read-more}
use Rattle.flowcheck.proofs.input.read_input.Goals as goal

pub loop-n-preserved : goal.loop-n-preserved
loop-n-preserved g c =
    let e = c.in-Ok.ensures in (
      search rules,
      search rules,
      read-more _ _ _ _ _ _ _ _ c.loop-n.invariant.0 e.bound.0 c.loop-n.invariant.2 e.bytes.0,
    )
