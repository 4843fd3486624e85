-- The trees that stand where sets are compared, and what the comparisons promise of them.
-- Working: `can-same` and `set_does` of proofs/Rules tie it to the halves that are compared. Assumes nothing.
--     MemberWritten, MembersWritten    a member at its place; members one after the other
--     PileStands                       a pile is a set that a rule makes of written ones
--     together                         sets, one after the other
--     PilesStand                       each of some piles is a set
--     HasSet, HasPiles                 some such tree is there, some such trees
--     CanSameSet, SameSet              a written set is the same as piles together
use Rattle.std.specs.Prelude.{◌≡◌, Bool, List, [], ◌∷◌, ◌++◌, ℕ}
use Rattle.language.specs.Syntax.{Sort, Boolean, Expr, neg, Assignment}
use Rattle.rules.specs.Assertion.{Member, Members, one}
use Rattle.rules.specs.Context.{Context}
use Rattle.rules.specs.Replace.{replacement, replace_members}
use Rattle.rules.specs.Sets.{under, without}
use Rattle.rules.specs.Tests.{same}
use Rattle.ends.specs.Ends.{EndsOf}
use Rattle.ends.specs.Places.{end_at, WrittenAt, SetAt}
use Rattle.compare.specs.Trees.{PutStands}
use Rattle.matching.specs.declared.cursor.Put.{Put}
use Rattle.sets.specs.Items.{past_member}
use Rattle.sets.specs.declared.item.View.TheVariants.{AsWritten, Under, Unless, Replaced}
use Rattle.sets.specs.declared.pile.Pile.{Pile}
use Rattle.sets.specs.declared.pile.Pile.TheVariants.{One, Set, Without}

-- sets, one after the other
abbrev pub together : List Members → Members
together [] = []
together (x ∷ xs) = x ++ together xs

module _ (file ends : List ℕ) where
  pub record MemberWritten (m : Member) (at : ℕ) : Type 0 where
    pub antecedent-at : WrittenAt file ends m.antecedent at
    pub consequent-at : WrittenAt file ends m.consequent (end_at ends at)

  abbrev pub MembersWritten : Members → ℕ → Type 0
  MembersWritten [] at = Unit {0}
  MembersWritten (m ∷ l) at = MemberWritten m at × MembersWritten l (past_member ends at)

  pub data PileStands : Pile → Members → Type 0 where
    stands_one : {f b : ℕ} {φ : Expr Boolean} {k : Sort} {e : Expr k} → WrittenAt file ends φ f → WrittenAt file ends e b →
        PileStands (One f b) (one φ e)
    stands-written : {Γ : Context} {at : ℕ} {q : Members} → SetAt file ends Γ q at → PileStands (Set at AsWritten) q
    stands-under : {Γ : Context} {at b : ℕ} {q : Members} {β : Expr Boolean} → SetAt file ends Γ q at →
        WrittenAt file ends β b → PileStands (Set at (Under b)) (under q β)
    stands-unless : {Γ : Context} {at b : ℕ} {q : Members} {β : Expr Boolean} → SetAt file ends Γ q at →
        WrittenAt file ends β b → PileStands (Set at (Unless b)) (under q (neg β))
    stands-replaced : {Γ : Context} {at : ℕ} {put : Put} {q : Members} {a : Assignment} → SetAt file ends Γ q at →
        PutStands file ends put a → PileStands (Set at (Replaced put)) (replace_members q (replacement a))
    stands-without : {Γ Δ : Context} {at from : ℕ} {t s : Members} → SetAt file ends Γ t at → SetAt file ends Δ s from →
        PileStands (Without at from) (without t s)

  pub record HasSet (at : ℕ) : Type 0 where
    pub Γ : Context
    pub tree : Members
    pub there : SetAt file ends Γ tree at

  -- each of some piles is a set
  abbrev pub PilesStand : List Pile → List Members → Type 0
  PilesStand [] [] = Unit {0}
  PilesStand [] (x ∷ xs) = ⊥
  PilesStand (pile ∷ piles) [] = ⊥
  PilesStand (pile ∷ piles) (x ∷ xs) = PileStands pile x × PilesStand piles xs

  pub record HasPiles (piles : List Pile) : Type 0 where
    pub trees : List Members
    pub stand : PilesStand piles trees

  pub record CanSameSet (p : ℕ) (piles : List Pile) : Type 0 where
    pub ends_of : EndsOf file ends
    pub set : HasSet p
    pub piles_stand : HasPiles piles

  -- the written set is the same as the piles together
  pub record SameSet (p : ℕ) (piles : List Pile) (r : Bool) : Type 0 where
    pub does : {Γ : Context} (s : Members) (xs : List Members) → SetAt file ends Γ s p → PilesStand piles xs → r ≡ same s (together xs)
