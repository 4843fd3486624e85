-- `arithmetic::product` meets its contract. Assumes nothing.
use mathlib.Core.Path.{ap, ◌∙◌}
use lib.IntN.{◌*ℤ◌}
use Rattle.arithmetic.specs.Worked.{outcome, checked}
use Rattle.arithmetic.proofs.Signed.{held_two, checked-as}
use Rattle.arithmetic.proofs.product.Goals as goal

pub returns : goal.returns
returns c =
    ap outcome c.ok_or.ensures.value ∙ checked-as _ _ c.checked_mul.ensures
    ∙ held_two (λ x y. checked (x *ℤ y)) c.ranges.a c.ranges.b
