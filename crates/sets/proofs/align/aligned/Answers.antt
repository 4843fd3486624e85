-- `sets::align::aligned` meets its contract. The invariant: what is said of the members and the piles that are left is said of all.
-- Assumes nothing.
use Rattle.std.proofs.Common.{arith}
use Rattle.sets.proofs.Piles.{pile-there}
use Rattle.sets.proofs.Aligned.{aligning_starts, pile-on, aligned_is}
use Rattle.sets.proofs.align.aligned.Goals as goal

pub loop-pile-init : goal.loop-pile-init
loop-pile-init c = let p = c.requires in aligning_starts c.new-rest.ensures p.ends_of p.members

pub align_pile-requires : goal.align_pile-requires
align_pile-requires c =
    let p = c.requires in
    record {
      ends_of = p.ends_of;
      rest_at = c.loop-pile.invariant.rest_at;
      pile_at = pile-there _ _ _ p.piles_at _ _ c.loop-pile-test.true;
    }

pub loop-pile-preserved : goal.loop-pile-preserved
loop-pile-preserved c = pile-on _ _ _ c.loop-pile-test.true c.loop-pile.invariant c.in-Some.ensures.does

pub returns : goal.returns
returns c =
    record { does = λ h. aligned_is _ _ _ _ (omega (arith, c.loop-pile-test.false)) c.loop-pile.invariant (c.is_empty.ensures h) }
