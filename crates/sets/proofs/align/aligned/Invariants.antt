-- `sets::align::aligned` meets its contract. The invariant: what is said of the members and the piles that are left is said of all.
-- Assumes nothing.
use lib.ListN.{drop}
use Rattle.sets.specs.Lists.{written}
use Rattle.sets.specs.Piles.{piles_numbers}
use Rattle.sets.proofs.Aligned.{Aligning}
use Rattle.sets.proofs.align.aligned.Given as goal

abbrev pub invariant-loop-pile : goal.invariant-loop-pile
invariant-loop-pile l =
    Aligning l.w l.ends (written l.w l.ends l.k l.at) (piles_numbers l.w l.ends l.piles) l.rest
    (piles_numbers l.w l.ends (drop l.pile-index l.piles))
