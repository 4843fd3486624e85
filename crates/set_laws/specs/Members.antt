-- A written set of one member.
-- Working: `is_one` of proofs/Sets says that a written set whose count is 1 is one. Assumes nothing.
--     OneWritten    a set is one written member
use Rattle.std.specs.Prelude.{◌≡◌, List, [], ◌∷◌, ℕ}
use Rattle.rules.specs.Assertion.{Member, Members}
use Rattle.sets.specs.Trees.{MemberWritten}

pub record OneWritten (file ends : List ℕ) (p : Members) (at : ℕ) : Type 0 where
  pub only : Member
  pub is : p ≡ only ∷ []
  pub only_at : MemberWritten file ends only at
