-- The context in code is that of the definitions.
-- Working: every contract below the public ones says by `limits_of`, `context_of` or `context_in` under which limits or context its definition is;
-- `settable-under` of proofs/Limits says that a context with the limits of settings in range is in range. Assumes nothing.
--     limits_of, context_of    the limits of the definitions; the context that has no procedures
--     Settable               they are within the ranges of settings
--     context_in              the context with the first procedures of a file, as many as may be called
--     refusal                a refusal of its number and place
use Rattle.std.specs.Prelude.{◌≡◌, true, List, ℕ}
use Rattle.rules.specs.Context as rules
use Rattle.rules.specs.Context.{Limits, within_ranges, alone}
use Rattle.layout.specs.Before.{context_before}
use Rattle.context.specs.declared.Context.{Context}
use Rattle.context.specs.declared.Refusal.{Refusal}

abbrev pub limits_of : Context → Limits
limits_of x = record { comparisons = x.comparisons; depth = x.depth; members = x.members }

abbrev pub Settable : Context → Type 0
Settable x = within_ranges (limits_of x) ≡ true

abbrev pub context_of : Context → rules.Context
context_of x = alone (limits_of x)

-- procedures stand from place 2 on
abbrev pub context_in : Context → List ℕ → rules.Context
context_in x file = context_before (alone (limits_of x)) file x.procedures 2

abbrev pub refusal : ℕ → ℕ → Refusal
refusal n p = record { number = n; place = p }
