-- `sets::set::same_members` meets its contract: in the same order, or each of the one in the other.
-- Assumes nothing.
use mathlib.Core.Path.{refl}
use Rattle.sets.proofs.Aligned.{same-found}
use Rattle.sets.proofs.set.same_members.Goals as goal

pub returns-then-aligned : goal.returns-then-aligned
returns-then-aligned c = same-found _ _ _ _ c.count-k.ensures refl c.aligned.ensures c.if-aligned.true
