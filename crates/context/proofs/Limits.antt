-- The limits of the context with the first procedures of a file are those of the context in code; a context under settings in range.
-- Assumes nothing.
--     most-comparisons    the most comparisons of an implication
--     settable-under      a context under settings in range
use mathlib.Core.Path.{◌≡◌, sym, ap, ◌∙◌}
use mathlib.Core.Bool.{Bool, true}
use mathlib.Core.List.{List}
use Prim.Native.Nat.{ℕ}
use Rattle.rules.specs.Context.{Limits, within_ranges, alone}
use Rattle.layout.proofs.Before.{before-limits}
use Rattle.context.specs.Contexts.{limits_of, context_in}
use Rattle.context.specs.declared.Context.{Context}

pub most-comparisons : (x : Context) (file : List ℕ) → (context_in x file).limits.comparisons ≡ x.comparisons
most-comparisons x file = ap (λ l. l.comparisons) (before-limits (alone (limits_of x)) file x.procedures 2)

pub settable-under : {l k : Limits} {b : Bool} → l ≡ k → b ≡ within_ranges k → b ≡ true → within_ranges l ≡ true
settable-under e h k = ap within_ranges e ∙ sym h ∙ k
