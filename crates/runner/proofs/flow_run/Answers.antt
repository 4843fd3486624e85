-- `runner::flow_run` meets its contract. Assumes nothing.
use Rattle.runner.proofs.Small.{can-pack, packed-run}
use Rattle.runner.proofs.flow_run.Goals as goal

pub pack-requires : goal.pack-requires
pack-requires c = can-pack c.run-ran.ensures

pub returns : goal.returns
returns c = packed-run c.run-ran.ensures c.pack.ensures
