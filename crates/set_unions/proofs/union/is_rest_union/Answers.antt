-- `set_unions::union::is_rest_union` meets its contract.
-- Assumes nothing.
use Rattle.set_unions.proofs.Unions.{can-rest_same, rest_at}
use Rattle.set_unions.proofs.union.is_rest_union.Goals as goal

pub same_set-requires : goal.same_set-requires
same_set-requires c = can-rest_same c.requires

pub returns : goal.returns
returns c = rest_at c.same_set.ensures
