-- `splice::walk::put_back` meets its contract: the words of that part of the file are loaded.
-- Assumes nothing.
use Rattle.splice.proofs.Walks.{back-loaded}
use Rattle.splice.proofs.walk.put_back.Goals as goal

pub returns : goal.returns
returns c = back-loaded c.requires c.load.ensures
