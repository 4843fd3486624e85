-- A written set matched with piles member by member, in order: the quick way to know that they are the same.
-- Working: `same-found` of proofs/Aligned says that sets matched so are the same; `same_set` looks everywhere where
-- this fails. Assumes nothing.
--     Matches                    two lists, member by member
--     written_at, EachAt, RestAt     the members at some places; those that an iterator has left
--     Parted, Aligns             the first members are those of a list, and the others are left; where some are left
--     Aligned                    all of a written set's members are those of some piles in order, where the test says so
--     CanAlign .. CanAlignPile   what the functions ask for
use Rattle.std.specs.Prelude.{◌≡◌, Bool, true, List, [], ◌∷◌, ◌++◌, ℕ, map, IfSome}
use Rattle.std.specs.declared.option.Option.{Option}
use Rattle.ends.specs.Ends.{EndsOf}
use Rattle.language.specs.Syntax.{Boolean}
use Rattle.matching.specs.Places.{ExpressionAt, AnyAt}
use Rattle.sets.specs.Items.{Halves, written_halves, same_halves}
use Rattle.sets.specs.Lists.{written}
use Rattle.sets.specs.Standing.{MemberAt, MembersAt, ViewAt}
use Rattle.sets.specs.Members.{places_left, CanPassAll}
use Rattle.sets.specs.Piles.{piles_numbers, PileAt}
use Rattle.sets.specs.declared.item.View.{View}
use Rattle.sets.specs.declared.pile.Pile.{Pile}
use Rattle.sets.specs.declared.members.Members.{Members}

unfoldable pub Matches : List Halves → List Halves → Type 0
Matches [] [] = Unit {0}
Matches [] (y ∷ l) = ⊥
Matches (x ∷ k) [] = ⊥
Matches (x ∷ k) (y ∷ l) = (same_halves x y ≡ true) × Matches k l

module _ (file ends : List ℕ) where
  -- the halves of the written members at some places
  abbrev pub written_at : List ℕ → List Halves
  written_at places = map (written_halves file ends) places

  abbrev pub EachAt : List ℕ → Type 0
  EachAt [] = Unit {0}
  EachAt (x ∷ places) = MemberAt file ends x × EachAt places

  -- an iterator's members stand in the file
  pub record RestAt (rest : Members) : Type 0 where
    pub can_pass : CanPassAll rest.ends.now rest.left rest.at
    pub members : EachAt (places_left rest)

  -- of the members at some places, the first are those of the list, and the rest are left
  pub record Parted (places : List ℕ) (l : List Halves) (rest : Members) : Type 0 where
    pub rest_at : RestAt rest
    pub front : List Halves
    pub split : written_at places ≡ front ++ written_at (places_left rest)
    pub matches : Matches front l

  pub record Aligns (all : Members) (l : List Halves) (r : Option Members) : Type 0 where
    pub does : IfSome r (λ rest. Parted (places_left all) l rest)

  pub record Aligned (k at : ℕ) (piles : List Pile) (r : Bool) : Type 0 where
    pub does : r ≡ true → Matches (written file ends k at) (piles_numbers file ends piles)

  pub record CanAlign (rest : Members) (k from : ℕ) (view : View) : Type 0 where
    pub ends_of : EndsOf file ends
    pub rest_at : RestAt rest
    pub part : MembersAt file ends k from
    pub view_at : ViewAt file ends view

  pub record CanAlignOne (rest : Members) (f b : ℕ) : Type 0 where
    pub ends_of : EndsOf file ends
    pub rest_at : RestAt rest
    pub antecedent : ExpressionAt file ends Boolean f
    pub consequent : AnyAt file ends b

  pub record CanAlignPile (rest : Members) (pile : Pile) : Type 0 where
    pub ends_of : EndsOf file ends
    pub rest_at : RestAt rest
    pub pile_at : PileAt file ends pile
