-- Members passed one by one by their places.
-- Assumes nothing.
--     members-pass                  members that stand in a file can be passed
--     start-passes, start-places    an iterator that starts there
--     each-place, seen-places       the members at their places, the halves of those
--     each-member                   what holds of each member may be asked at each place
--     stands-each .. rest-each      a test of a list of members, by a test of each
use mathlib.Core.Path.{◌≡◌, refl, sym, ap, subst, ◌∙◌}
use mathlib.Core.Bool.{Bool, true, false, not, ◌&&◌, ◌||◌, cond}
use mathlib.Core.List.{List, [], ◌∷◌, map}
use Prim.Native.Nat.{ℕ, zero, suc, ◌<◌}
use lib.ListN.{length, get_or}
use native.Mathlib.Omega.{arith}
use Rattle.std.specs.Iterator.{YieldsFirst, CallableAtEachTurn}
use Rattle.std.specs.List.{list_any, list_all}
use Rattle.std.proofs.lemmas.Iterator.{YieldsList}
use Rattle.std.proofs.lemmas.Iterator.Adapters.{serves_from_places}
use Rattle.std.proofs.lemmas.Iterator.Consumers.{YieldsList-from_first}
use Rattle.ends.specs.Ends.{EndsOf}
use Rattle.sets.specs.Items.{past_member, Halves, seen_as, same_halves, same_written_halves}
use Rattle.sets.specs.Lists.{seen_all, stands_in, within_all, listed_in, without_all}
use Rattle.sets.specs.Standing.{MemberAt, MembersAt}
use Rattle.sets.specs.Members.{member_places, places_left, CanPassAll, StartsAt}
use Rattle.sets.specs.Aligned.{EachAt}
use Rattle.sets.specs.declared.item.View.{View}
use Rattle.sets.specs.declared.members.Members.{Members}
use Rattle.sets.proofs.Places.{member-pass}
use Rattle.sets.proofs.Equal.{same_halves-sym}

module _ (file ends : List ℕ) (o : EndsOf file ends) where
  members-pass : (k at : ℕ) → MembersAt file ends k at → CanPassAll ends k at
  unfolding MembersAt
  members-pass zero at m = tt
  members-pass (suc k) at m = (member-pass o m.0, members-pass k (past_member ends at) m.1)

module _ (file ends : List ℕ) where
  member-there : (k at : ℕ) → MembersAt file ends k at → (i x : ℕ) → i < length (member_places ends k at) →
      x ≡ get_or (member_places ends k at) i x → MemberAt file ends x
  unfolding MembersAt
  member-there zero at m i x h e = absurd (omega arith)
  member-there (suc k) at m zero x h e = subst (MemberAt file ends) (sym e) m.0
  member-there (suc k) at m (suc i) x h e = member-there k (past_member ends at) m.1 i x (omega arith) e

  pub each-place : (k at : ℕ) → MembersAt file ends k at → EachAt file ends (member_places ends k at)
  unfolding MembersAt
  each-place zero at m = tt
  each-place (suc k) at m = (m.0, each-place k (past_member ends at) m.1)

  pub seen-places : (view : View) (k at : ℕ) → seen_all file ends view k at ≡ map (seen_as file ends view) (member_places ends k at)
  unfolding seen_all
  seen-places view zero at = refl
  seen-places view (suc k) at = ap (λ l. seen_as file ends view at ∷ l) (seen-places view k (past_member ends at))

module _ {ends : List ℕ} {k at : ℕ} {s : Members} (h : StartsAt ends k at s) where
  pub start-places : places_left s ≡ member_places ends k at
  start-places = rw (h.ends_are, h.count_is, h.place_is) refl

  pub starts : YieldsList (YieldsFirst places_left) (λ x. x) s (member_places ends k at)
  starts = YieldsList-from_first (λ x. x) places_left (member_places ends k at) start-places

module _ {file ends : List ℕ} {k at : ℕ} {s : Members} (h : StartsAt ends k at s) (m : MembersAt file ends k at) where
  pub start-passes : EndsOf file ends → CanPassAll s.ends.now s.left s.at
  start-passes o = rw (h.ends_are, h.count_is, h.place_is) (members-pass file ends o k at m)

  pub each-member : {F : Type 0} {R : F → ℕ → F → Type 0} {Q : F → ℕ → Type 0} {f : F} →
      ((x : ℕ) (q : F) → R f x q → q ≡ f) → ((x : ℕ) → MemberAt file ends x → Q f x) →
      CallableAtEachTurn (YieldsFirst places_left) R Q s f
  each-member r q = serves_from_places (starts h) r (λ x i l e. q x (member-there file ends k at m i x l e))

-- a test of a list of members, by a test of each
module _ (file ends : List ℕ) (view : View) (test : List Halves → Bool) (b : ℕ → Bool) where
  any-member : false ≡ test [] → ((i : ℕ) (z : List Halves) → (b i || test z) ≡ test (seen_as file ends view i ∷ z)) →
      (k at : ℕ) → list_any b (member_places ends k at) ≡ test (seen_all file ends view k at)
  unfolding seen_all
  any-member e f zero at = e
  any-member e f (suc k) at =
      ap (λ r. b at || r) (any-member e f k (past_member ends at)) ∙ f at (seen_all file ends view k (past_member ends at))

  all-members : true ≡ test [] → ((i : ℕ) (z : List Halves) → (b i && test z) ≡ test (seen_as file ends view i ∷ z)) →
      (k at : ℕ) → list_all b (member_places ends k at) ≡ test (seen_all file ends view k at)
  unfolding seen_all
  all-members e f zero at = e
  all-members e f (suc k) at =
      ap (λ r. b at && r) (all-members e f k (past_member ends at)) ∙ f at (seen_all file ends view k (past_member ends at))

module _ (file ends : List ℕ) (view : View) (x : Halves) where
  pub stands-each : (k at : ℕ) →
      list_any (λ i. same_halves x (seen_as file ends view i)) (member_places ends k at) ≡ stands_in x (seen_all file ends view k at)
  unfolding stands_in
  stands-each = any-member file ends view (stands_in x) _ refl (λ i z. refl)

  -- the same, compared from the other side
  pub found-each : (k at : ℕ) →
      list_any (λ i. same_halves (seen_as file ends view i) x) (member_places ends k at) ≡ stands_in x (seen_all file ends view k at)
  unfolding stands_in
  found-each =
      any-member file ends view (stands_in x) _ refl
      (λ i z. ap (λ b. b || stands_in x z) (same_halves-sym (seen_as file ends view i) x))

  pub listed-each : (k at : ℕ) →
      list_any (λ i. same_written_halves x (seen_as file ends view i)) (member_places ends k at) ≡ listed_in x (seen_all file ends view k at)
  unfolding listed_in
  listed-each = any-member file ends view (listed_in x) _ refl (λ i z. refl)

  module _ (q : List Halves) where
    pub left-each : (k at : ℕ) →
        list_any (λ i. same_halves x (seen_as file ends view i) && not (listed_in (seen_as file ends view i) q)) (member_places ends k at)
        ≡ stands_in x (without_all (seen_all file ends view k at) q)
    unfolding stands_in without_all
    left-each =
        any-member file ends view (λ z. stands_in x (without_all z q)) _ refl
        (λ i z. remaining (seen_as file ends view i) (without_all z q) (same_halves x (seen_as file ends view i)) (listed_in (seen_as file ends view i) q) refl)
      where
        remaining : (y : Halves) (z : List Halves) (d c : Bool) → same_halves x y ≡ d →
            ((d && not c) || stands_in x z) ≡ stands_in x (cond c z (y ∷ z))
        remaining y z true true h = refl
        remaining y z false true h = refl
        remaining y z true false h = rw h
        remaining y z false false h = rw h

module _ (file ends : List ℕ) (view : View) (p : List Halves) where
  pub within-each : (k at : ℕ) →
      list_all (λ i. stands_in (seen_as file ends view i) p) (member_places ends k at) ≡ within_all (seen_all file ends view k at) p
  unfolding within_all
  within-each = all-members file ends view (λ z. within_all z p) _ refl (λ i z. refl)

  pub rest-each : (q : List Halves) (k at : ℕ) →
      list_all (λ i. stands_in (seen_as file ends view i) p || listed_in (seen_as file ends view i) q) (member_places ends k at)
      ≡ within_all (without_all (seen_all file ends view k at) q) p
  unfolding within_all without_all
  rest-each q =
      all-members file ends view (λ z. within_all (without_all z q) p) _ refl
      (λ i z. remaining (seen_as file ends view i) (without_all z q) (stands_in (seen_as file ends view i) p) (listed_in (seen_as file ends view i) q) refl)
    where
      remaining : (y : Halves) (z : List Halves) (d c : Bool) → stands_in y p ≡ d →
          ((d || c) && within_all z p) ≡ within_all (cond c z (y ∷ z)) p
      remaining y z true true h = refl
      remaining y z false true h = refl
      remaining y z true false h = rw h
      remaining y z false false h = rw h
