-- The condition of rule 17 of sets on written sets: what it asks for, and what it promises (document 01).
-- Working: `rest_at` of proofs/Unions says that the code's answer is that of the rule on trees. Assumes nothing.
--     CanRestUnion, RestAt    a written set is the same as (T without S') ∪ S
use Rattle.std.specs.Prelude.{◌≡◌, Bool, List, ◌++◌, ℕ}
use Rattle.rules.specs.Assertion.{Members}
use Rattle.rules.specs.Context.{Context}
use Rattle.rules.specs.Sets.{without}
use Rattle.rules.specs.Tests.{same}
use Rattle.ends.specs.Ends.{EndsOf}
use Rattle.ends.specs.Places.{SetAt}
use Rattle.sets.specs.Trees.{HasSet}

-- T at t, S' at `leave`, S at s
pub record CanRestUnion (file ends : List ℕ) (p t leave s : ℕ) : Type 0 where
  pub ends_of : EndsOf file ends
  pub set : HasSet file ends p
  pub most : HasSet file ends t
  pub left_out : HasSet file ends leave
  pub added : HasSet file ends s

pub record RestAt (file ends : List ℕ) (p t leave s : ℕ) (r : Bool) : Type 0 where
  pub is : {Γ : Context} (l x y z : Members) → SetAt file ends Γ l p → SetAt file ends Γ x t → SetAt file ends Γ y leave →
      SetAt file ends Γ z s → r ≡ same l (without x y ++ z)
