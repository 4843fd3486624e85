-- The answer of a scan for the first fault (refusals 7 and 16), from the layout's `first_place`.
-- Working: `found_here` and `found_none` of proofs/Tests say so of refusal 7; the contract of the scan for a wrong call has it of 16. Assumes nothing.
--     fault_place    the place, or that there is none, as the code answers it
use Rattle.std.specs.Prelude.{ℕ, Option, Some, None}
use Rattle.std.proofs.Math.Option as Math

abbrev pub fault_place : Math.Option ℕ → Option ℕ
fault_place Math.none = None
fault_place (Math.some at) = Some at
