-- `splice::copy::copy` meets its contract: so many bytes are copied, and each turn copies the next.
-- Assumes nothing.
use Rattle.splice.proofs.Splice.{copying-none, copying-more, copying-all}
use Rattle.splice.proofs.copy.copy.Goals as goal

pub loop-i-init : goal.loop-i-init
loop-i-init c = copying-none c.requires

pub loop-i-preserved : goal.loop-i-preserved
loop-i-preserved c = copying-more c.requires c.loop-i.invariant c.loop-i-test.true

pub returns : goal.returns
returns c = copying-all c.requires c.loop-i.invariant c.loop-i-test.false
