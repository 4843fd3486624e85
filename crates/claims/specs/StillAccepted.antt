-- Request [2] of document 02 against the rules before it: "no file accepted before is refused".
-- Trusted. Assumes nothing.
--     StillAccepted    the claim
use Rattle.std.specs.Prelude.{◌≡◌, List, ℕ}
use Rattle.rules.specs.Context.{Limits}
use Rattle.rules.specs.Sets.{SameByWords}
use Rattle.rules.specs.Judge.{accepted}
use Rattle.layout.specs.Verdict.{verdict_of}
use Rattle.claims.specs.Check.{Derives}

pub record StillAccepted (limits : Limits) (bytes : List ℕ) : Type 0 where
  -- by demand 2 a file was accepted exactly when it reads and its evidence derives its contracts, antecedents compared by words
  pub still-accepted : Derives SameByWords limits bytes → (n : ℕ) × (verdict_of limits bytes ≡ accepted n)
