-- The integer of a constant's payload (document 01, "Layout", kind 1; document 02, request [4]).
-- Trusted. Assumes nothing.
--     constant_of    by two cases; `ByCases` of crates/claims says that this is two's complement
use Rattle.std.specs.Prelude.{cond, ℕ, ltb, ℤ, pos, ◌-ℤ◌}

-- below 33,554,432 the payload itself, otherwise the payload less 67,108,864
abbrev pub constant_of : ℕ → ℤ
constant_of p = cond (ltb p 33554432) (pos p) (pos p -ℤ pos 67108864)
