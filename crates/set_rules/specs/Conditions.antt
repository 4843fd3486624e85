-- The rules' conditions on written sets: what each asks for, and what it promises (document 01, rules 13, 14 and 19 of
-- sets).
-- Working: `within-at` of proofs/Inclusions, `remains_stop` and `remains_end` of proofs/EmptySets, `one_split`, `two-split`
-- and `none-split` of proofs/Operands say that the code's answers are those of the rules on trees. Assumes nothing.
--     CanInclude, WithinAt      rule 13: each of a written set stands in another
--     CanTryMember, CanTryEach, EachAt
--                               rule 14: an antecedent implies false; each does
--     has_two, CanOperands, OperandsAt
--                               rule 19: a written set is the same as φ ⇒ each operand of E
use Rattle.std.specs.Prelude.{◌≡◌, Bool, false, ◌||◌, List, ℕ, ◌<◌, ◌≤◌, eqb, length}
use Rattle.language.specs.Syntax.{Sort, Boolean, Expr}
use Rattle.rules.specs.Assertion.{Members}
use Rattle.rules.specs.Context.{Context}
use Rattle.rules.specs.Condition.{each_implies_false, on_some}
use Rattle.rules.specs.Sets.{operands}
use Rattle.rules.specs.Tests.{within, same}
use Rattle.ends.specs.Ends.{EndsOf}
use Rattle.implication.specs.Sides.{Condition, result_of, CanImply}
use Rattle.implication.specs.declared.Side.TheVariants.{One, False}
use Rattle.ends.specs.Places.{end_at, WrittenAt, SetAt}
use Rattle.sets.specs.Trees.{MembersWritten, HasSet}

-- the kinds of rule 19 that have two operands
unfoldable pub has_two : ℕ → Bool
has_two k = eqb k 3 || (eqb k 8 || (eqb k 10 || eqb k 11))

module _ (file ends : List ℕ) where
  pub record CanInclude (q p : ℕ) : Type 0 where
    pub ends_of : EndsOf file ends
    pub part : HasSet file ends q
    pub whole : HasSet file ends p

  pub record WithinAt (q p : ℕ) (r : Bool) : Type 0 where
    pub is : (Γ : Context) (x y : Members) → SetAt file ends Γ x q → SetAt file ends Γ y p →
        r ≡ within x y

  -- a member at i
  pub record CanTryMember (limit i : ℕ) : Type 0 where
    pub listed : i < length ends
    pub can : CanImply file (One i (end_at ends i)) False limit

  -- the n members at `at`
  pub record CanTryEach (limit n at : ℕ) : Type 0 where
    pub ends_of : EndsOf file ends
    pub size : length file ≤ 8192
    pub few : limit ≤ 16
    pub members : Members
    pub count : length members ≡ n
    pub members-at : MembersWritten file ends members at

  pub record EachAt (limit n at : ℕ) (r : Condition) : Type 0 where
    pub is : (l : Members) → length l ≡ n → MembersWritten file ends l at → (Γ : Context) →
        Γ.limits.comparisons ≡ limit → result_of r ≡ each_implies_false Γ l

  -- φ at f, E at e
  pub record CanOperands (p f e : ℕ) : Type 0 where
    pub ends_of : EndsOf file ends
    pub size : length file ≤ 8192
    pub set : HasSet file ends p
    pub φ : Expr Boolean
    pub antecedent-at : WrittenAt file ends φ f
    pub sort : Sort
    pub whole : Expr sort
    pub whole-at : WrittenAt file ends whole e

  pub record OperandsAt (p f e : ℕ) (r : Bool) : Type 0 where
    pub is : (Γ : Context) (l : Members) (φ : Expr Boolean) {k : Sort} (d : Expr k) → SetAt file ends Γ l p →
        WrittenAt file ends φ f → WrittenAt file ends d e → r ≡ on_some (operands φ d) false (λ x. same l x)
