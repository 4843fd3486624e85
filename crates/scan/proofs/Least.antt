-- The lesser of two numbers, as std's `min` answers it.
-- Assumes nothing.
--     least    it is the lesser that `omega` knows
use Rattle.std.proofs.Common.{◌≡◌, ℕ, min, rules, nat_cmp}
use Rattle.std.specs.Ordering.{ord_min}

pub least : (a b : ℕ) → ord_min nat_cmp a b ≡ min a b
least a b = search rules
