-- The places of members that stand one after the other.
-- Working: `seen-places` of proofs/Steps says that they are those of the members that are compared. Assumes nothing.
--     member_places, places_left    the places of so many members; of those that an iterator has left
--     StartsAt                      an iterator has so many members left, from a place on
--     CanPassAll                    their places are in the list of ends
use Rattle.std.specs.Prelude.{◌≡◌, List, [], ◌∷◌, ℕ, zero, suc}
use Rattle.sets.specs.Items.{past_member}
use Rattle.sets.specs.Standing.{CanPass}
use Rattle.sets.specs.declared.members.Members.{Members}

abbrev pub member_places : List ℕ → ℕ → ℕ → List ℕ
member_places ends zero at = []
member_places ends (suc n) at = at ∷ member_places ends n (past_member ends at)

abbrev pub CanPassAll : List ℕ → ℕ → ℕ → Type 0
CanPassAll ends zero at = Unit {0}
CanPassAll ends (suc n) at = CanPass ends at × CanPassAll ends n (past_member ends at)

abbrev pub places_left : Members → List ℕ
places_left m = member_places m.ends.now m.left m.at

pub record StartsAt (ends : List ℕ) (k at : ℕ) (m : Members) : Type 0 where
  pub ends_are : m.ends.now ≡ ends
  pub count_is : m.left ≡ k
  pub place_is : m.at ≡ at
