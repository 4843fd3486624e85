-- The test of integers decides their equality.
-- Assumes nothing.
--     same_integer-decides    equality of integers
use mathlib.Core.Path.{◌≡◌, sym, ap}
use lib.IntN.{ℤ, pos, negsuc, pos-ne-negsuc}
use Rattle.laws.proofs.Decides.{Decides, decides_map, decides_no, eqb-decides}
use Rattle.language.specs.Store.{same_integer}

pub same_integer-decides : (y z : ℤ) → Decides (same_integer y z) (y ≡ z)
same_integer-decides (pos a) (pos b) = decides_map (ap pos) (λ h. cc) (eqb-decides a b)
same_integer-decides (pos a) (negsuc b) = decides_no (pos-ne-negsuc a b)
same_integer-decides (negsuc a) (pos b) = decides_no (λ h. pos-ne-negsuc b a (sym h))
same_integer-decides (negsuc a) (negsuc b) = decides_map (ap negsuc) (λ h. cc) (eqb-decides a b)
