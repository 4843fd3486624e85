-- The limits of document 01, which a caller may set (document 02, request [6]), and what a program is read and judged under (request [3]).
-- Trusted. Assumes nothing.
--     Limits, standard      the most comparisons of an implication, the most depth, the most members of a set; document 01's
--     settings_of            those of three numbers, in this order
--     within_ranges          each is in the range that it may be set to
--     Procedure, Context    a body with its contract; the limits, and the procedures that may be called
--     alone                 with no procedure
--     item_at                what stands at a place of a list
--     body_of, called        the body of a procedure; a call of procedure p, with its body
use Rattle.std.specs.Prelude.{Bool, ◌&&◌, List, [], ◌∷◌, ℕ, zero, suc, leb}
use Rattle.std.proofs.Math.Option.{Option, none, some}
use Rattle.language.specs.Syntax.{Command, skip, call}
use Rattle.rules.specs.Assertion.{Members}

pub record Limits : Type 0 where
  pub comparisons : ℕ
  pub depth : ℕ
  pub members : ℕ

unfoldable pub standard : Limits
standard = record { comparisons = 10; depth = 128; members = 64 }

abbrev pub settings_of : ℕ → ℕ → ℕ → Limits
settings_of comparisons depth members = record { comparisons = comparisons; depth = depth; members = members }

-- comparisons 0 to 16, depth 1 to 256, members 0 to 128
unfoldable pub within_ranges : Limits → Bool
within_ranges limits =
    leb limits.comparisons 16 && (leb 1 limits.depth && (leb limits.depth 256 && leb limits.members 128))

pub record Procedure : Type 0 where
  pub body : Command
  pub pre : Members
  pub post : Members

-- procedure p stands at place p, from 0
pub record Context : Type 0 where
  pub limits : Limits
  pub procedures : List Procedure

abbrev pub alone : Limits → Context
alone limits = record { limits = limits; procedures = [] }

unfoldable pub item_at : {A : Type 0} → List A → ℕ → Option A
item_at [] i = none
item_at (x ∷ l) zero = some x
item_at (x ∷ l) (suc i) = item_at l i

-- a call of a number that no procedure before it has is refused (16), whatever stands for its body
abbrev pub body_of : Option Procedure → Command
body_of none = skip
body_of (some k) = k.body

abbrev pub called : Context → ℕ → Command
called Γ p = call p (body_of (item_at Γ.procedures p))
