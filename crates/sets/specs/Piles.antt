-- Piles: the sets that the rules make of written ones, as lists of their members' halves.
-- Working: `pile_is` and `same-trees` of proofs/Trees say that these are the sets that the rules name. Assumes nothing.
--     count_at, written_set          how many members a written set has; its members' halves
--     pile_numbers, piles_numbers    by pile; of piles together
--     AnySetAt, PileAt, PilesAt    what a pile names stands in the file
--     CanSearch .. CanSamePiles    what the functions on piles ask for
use Rattle.std.specs.Prelude.{List, [], ◌∷◌, ◌++◌, ℕ, ◌+◌, ◌<◌, length}
use Rattle.layout.specs.Bytes.{payload_at}
use Rattle.ends.specs.Ends.{EndsOf}
use Rattle.language.specs.Syntax.{Boolean}
use Rattle.matching.specs.Places.{ExpressionAt, AnyAt}
use Rattle.sets.specs.Items.{Halves, pair_item, item_halves}
use Rattle.sets.specs.Lists.{seen_all, written, without_all}
use Rattle.sets.specs.Standing.{MemberAt, MembersAt, ViewAt}
use Rattle.sets.specs.declared.pile.Pile.{Pile}
use Rattle.sets.specs.declared.pile.Pile.TheVariants.{One, Set, Without}

abbrev pub count_at : List ℕ → ℕ → ℕ
count_at file q = payload_at file q

module _ (file ends : List ℕ) where
  abbrev pub written_set : ℕ → List Halves
  written_set q = written file ends (count_at file q) (q + 1)

  unfoldable pub pile_numbers : Pile → List Halves
  pile_numbers (One f b) = item_halves file ends (pair_item f b) ∷ []
  pile_numbers (Set q view) = seen_all file ends view (count_at file q) (q + 1)
  pile_numbers (Without t s) = without_all (written_set t) (written_set s)

  unfoldable pub piles_numbers : List Pile → List Halves
  piles_numbers [] = []
  piles_numbers (pile ∷ piles) = pile_numbers pile ++ piles_numbers piles

  -- a written set stands there
  pub record AnySetAt (q : ℕ) : Type 0 where
    pub inside : q < length file
    pub members : MembersAt file ends (count_at file q) (q + 1)

  unfoldable pub PileAt : Pile → Type 0
  PileAt (One f b) = ExpressionAt file ends Boolean f × AnyAt file ends b
  PileAt (Set q view) = AnySetAt q × ViewAt file ends view
  PileAt (Without t s) = AnySetAt t × AnySetAt s

  unfoldable pub PilesAt : List Pile → Type 0
  PilesAt [] = Unit {0}
  PilesAt (pile ∷ piles) = PileAt pile × PilesAt piles

  -- a member is looked for in a pile, in several
  pub record CanSearch (x : ℕ) (pile : Pile) : Type 0 where
    pub ends_of : EndsOf file ends
    pub member : MemberAt file ends x
    pub pile_at : PileAt pile

  pub record CanSearchAll (x : ℕ) (piles : List Pile) : Type 0 where
    pub ends_of : EndsOf file ends
    pub member : MemberAt file ends x
    pub piles_at : PilesAt piles

  -- a pile's members among the k members at `at`; several piles'
  pub record CanKeepPile (pile : Pile) (k at : ℕ) : Type 0 where
    pub ends_of : EndsOf file ends
    pub members : MembersAt file ends k at
    pub pile_at : PileAt pile

  pub record CanKeepAll (piles : List Pile) (k at : ℕ) : Type 0 where
    pub ends_of : EndsOf file ends
    pub members : MembersAt file ends k at
    pub piles_at : PilesAt piles

  pub record CanSamePiles (p : ℕ) (piles : List Pile) : Type 0 where
    pub ends_of : EndsOf file ends
    pub set : AnySetAt p
    pub piles_at : PilesAt piles
