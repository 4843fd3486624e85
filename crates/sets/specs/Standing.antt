-- Members, views and items stand in a file: what the functions that compare them ask for.
-- Working: `member-place`, `members-place` and `set-place` of proofs/Trees say that trees that stand in the file stand
-- so. Assumes nothing.
--     CanPass                         a member's two places are in the list of ends
--     MemberAt                        a boolean and an expression of any sort stand there
--     ViewAt                          what a view names stands there
--     ItemAt, CanCompare, CanSee      what an item names; a written member compared with one, with a member that is seen
--     MembersAt                       so many members, one after the other
--     CanFind, CanLook                an item among members; a member among members that are seen
--     CanHold, CanEither, CanRest     each of some members among others; among two sets; without those that are listed
--     CanLeave                        one of the others that is not listed
use Rattle.std.specs.Prelude.{List, ℕ, zero, suc, ◌<◌, length}
use Rattle.language.specs.Syntax.{Boolean}
use Rattle.ends.specs.Ends.{EndsOf}
use Rattle.ends.specs.Places.{end_at}
use Rattle.matching.specs.Places.{ExpressionAt, AnyAt}
use Rattle.compare.specs.Trees.{HasPut}
use Rattle.compare.specs.Forms.{AntecedentAt, ConsequentAt}
use Rattle.sets.specs.Items.{past_member}
use Rattle.sets.specs.declared.item.View.{View}
use Rattle.sets.specs.declared.item.View.TheVariants.{AsWritten, Under, Unless, Replaced}
use Rattle.sets.specs.declared.item.FormedMember.{FormedMember}

-- a member's two places are in the list of ends
pub record CanPass (ends : List ℕ) (at : ℕ) : Type 0 where
  pub first : at < length ends
  pub second : end_at ends at < length ends

module _ (file ends : List ℕ) where
  pub record MemberAt (at : ℕ) : Type 0 where
    pub antecedent : ExpressionAt file ends Boolean at
    pub consequent : AnyAt file ends (end_at ends at)

  unfoldable pub ViewAt : View → Type 0
  ViewAt AsWritten = Unit {0}
  ViewAt (Under b) = ExpressionAt file ends Boolean b
  ViewAt (Unless b) = ExpressionAt file ends Boolean b
  ViewAt (Replaced put) = HasPut file ends put

  pub record ItemAt (item : FormedMember) : Type 0 where
    pub antecedent-at : AntecedentAt file ends item.antecedent
    pub consequent-at : ConsequentAt file ends item.consequent

  pub record CanCompare (at : ℕ) (item : FormedMember) : Type 0 where
    pub ends_of : EndsOf file ends
    pub member : MemberAt at
    pub item-at : ItemAt item

  pub record CanSee (at a : ℕ) (view : View) : Type 0 where
    pub ends_of : EndsOf file ends
    pub member : MemberAt at
    pub other : MemberAt a
    pub view_at : ViewAt view

  -- so many members stand one after the other
  unfoldable pub MembersAt : ℕ → ℕ → Type 0
  MembersAt zero at = Unit {0}
  MembersAt (suc n) at = MemberAt at × MembersAt n (past_member ends at)

  -- an item is looked for among the k members at `at`
  pub record CanFind (k at : ℕ) (item : FormedMember) : Type 0 where
    pub ends_of : EndsOf file ends
    pub members : MembersAt k at
    pub item-at : ItemAt item

  -- a member among the k members at `at`, seen as a view says
  pub record CanLook (x k at : ℕ) (view : View) : Type 0 where
    pub ends_of : EndsOf file ends
    pub member : MemberAt x
    pub members : MembersAt k at
    pub view_at : ViewAt view

  -- the j members at `from`, seen as a view says, among the k members at `at`
  pub record CanHold (j from : ℕ) (view : View) (k at : ℕ) : Type 0 where
    pub ends_of : EndsOf file ends
    pub part : MembersAt j from
    pub view_at : ViewAt view
    pub members : MembersAt k at

  -- a member is the one at a, which is not listed among the l members at `leave`
  pub record CanLeave (x a l leave : ℕ) : Type 0 where
    pub ends_of : EndsOf file ends
    pub member : MemberAt x
    pub other : MemberAt a
    pub listed : MembersAt l leave

  -- a member among the k members at `at`, or among the l members at `leave`
  pub record CanEither (x l leave k at : ℕ) : Type 0 where
    pub ends_of : EndsOf file ends
    pub member : MemberAt x
    pub listed : MembersAt l leave
    pub members : MembersAt k at

  -- the same, without those that are listed among the l members at `leave`
  pub record CanRest (j from l leave k at : ℕ) : Type 0 where
    pub ends_of : EndsOf file ends
    pub part : MembersAt j from
    pub listed : MembersAt l leave
    pub members : MembersAt k at
