-- Members in the same order.
-- Assumes nothing.
--     FrontMatches                                     a list is one that matches another, and then the rest
--     rest_starts, rest-first, rest-on                 the members that an iterator has left
--     Aligning, aligning_start .. aligning_end         lists passed together
--     seen_start .. pile-on                            seen members and written ones; piles and written members
--     parted_is, part_one, of-pile_one, of-pile_set    the first members; one member; by pile
--     aligned_is                                       all of both lists
--     same_all-matches, same-found                     two lists with the same elements
use mathlib.Core.Path.{◌≡◌, refl, sym, ap, ap₂, subst, ◌∙◌}
use mathlib.Core.Bool.{Bool, true, false, ◌||◌}
use mathlib.Core.List.{List, [], ◌∷◌, ◌++◌, map, append_assoc, append-nil}
use Prim.Native.Nat.{ℕ, ◌+◌, ◌<◌, ◌≤◌}
use lib.ListN.{length, get_or, drop}
use Rattle.std.proofs.lemmas.List.{at_drop_more, at_drop_all}
use Rattle.std.specs.declared.option.Option.{Option}
use Rattle.ends.specs.Ends.{EndsOf}
use Rattle.laws.proofs.Bools.{and_both}
use Rattle.sets.specs.Items.{Halves, pair_item, item_halves, seen_as, written_halves, same_halves}
use Rattle.sets.specs.Lists.{seen_all, written, stands_in, within_all, same_all}
use Rattle.sets.specs.Standing.{MemberAt, MembersAt}
use Rattle.sets.specs.Piles.{count_at, written_set, pile_numbers, piles_numbers}
use Rattle.sets.specs.Members.{places_left, CanPassAll, StartsAt}
use Rattle.sets.specs.Aligned.{Matches, written_at, EachAt, RestAt, Parted, Aligns, Aligned}
use Rattle.sets.specs.declared.item.View.{View}
use Rattle.sets.specs.declared.item.View.TheVariants.{AsWritten}
use Rattle.sets.specs.declared.pile.Pile.{Pile}
use Rattle.sets.specs.declared.pile.Pile.TheVariants.{One, Set}
use Rattle.sets.specs.declared.members.Members.{Members}
use Rattle.sets.proofs.Equal.{same_halves-sym}
use Rattle.sets.proofs.Steps.{start-passes, start-places, each-place, seen-places}

-- a list is one that matches another, and then the rest
pub record FrontMatches (all l z : List Halves) : Type 0 where
  pub front : List Halves
  pub split : all ≡ front ++ z
  pub matches : Matches front l

-- lists that match, from the first on
matches-more : (x y : Halves) (k l : List Halves) → same_halves x y ≡ true → Matches k l → Matches (x ∷ k) (y ∷ l)
unfolding Matches
matches-more x y k l h m = (h, m)

matches-none : Matches [] []
unfolding Matches
matches-none = tt

matches-append : (a b k l : List Halves) → Matches a b → Matches k l → Matches (a ++ k) (b ++ l)
unfolding Matches
matches-append [] [] k l m n = n
matches-append [] (y ∷ b) k l m n = absurd m
matches-append (x ∷ a) [] k l m n = absurd m
matches-append (x ∷ a) (y ∷ b) k l m n = (m.0, matches-append a b k l m.1 n)

-- members that are left
module _ (file : List ℕ) where
  pub each-starts : {ends : List ℕ} {k at : ℕ} {rest : Members} → StartsAt ends k at rest → MembersAt file ends k at → EachAt file ends (places_left rest)
  each-starts {ends} h m = subst (EachAt file ends) (sym (start-places h)) (each-place file _ _ _ m)

module _ {file ends : List ℕ} where
  pub rest_starts : {k at : ℕ} {rest : Members} → StartsAt ends k at rest → EndsOf file ends → MembersAt file ends k at → RestAt file ends rest
  rest_starts h o m =
      record { can_pass = start-passes h m o; members = each-starts file h m }

  pub rest-first : {rest : Members} {i : ℕ} {l : List ℕ} → RestAt file ends rest → places_left rest ≡ i ∷ l → MemberAt file ends i
  rest-first r e = (subst (EachAt file ends) e r.members).0

  pub rest-on : {rest next : Members} {i : ℕ} → RestAt file ends rest → places_left rest ≡ i ∷ places_left next →
      CanPassAll next.ends.now next.left next.at → RestAt file ends next
  rest-on r e c = record { can_pass = c; members = (subst (EachAt file ends) e r.members).1 }

-- of a list `start` the rest are left, and what is said of those and of the list that is left is said of the whole lists
pub record Aligning (file ends : List ℕ) (start all : List Halves) (rest : Members) (l : List Halves) : Type 0 where
  pub rest_at : RestAt file ends rest
  pub keeps : (z front : List Halves) → written_at file ends (places_left rest) ≡ front ++ z → Matches front l →
      FrontMatches start all z

module _ {file ends : List ℕ} where
  pub aligning_start : {rest : Members} {l : List Halves} → RestAt file ends rest →
      Aligning file ends (written_at file ends (places_left rest)) l rest l
  aligning_start r = record { rest_at = r; keeps = λ z front h g. record { front = front; split = h; matches = g } }

  pub aligning_starts : {k at : ℕ} {rest : Members} {l : List Halves} → StartsAt ends k at rest → EndsOf file ends →
      MembersAt file ends k at → Aligning file ends (written file ends k at) l rest l
  aligning_starts {k} {at} {rest} {l} h o m =
      subst (λ s. Aligning file ends s l rest l)
      (ap (written_at file ends) (start-places h) ∙ sym (seen-places file ends AsWritten k at))
      (aligning_start (rest_starts h o m))

  module _ {start all : List Halves} {rest : Members} where
    pub aligning_on : {next : Members} {i : ℕ} {y : Halves} {l : List Halves} → Aligning file ends start all rest (y ∷ l) →
        places_left rest ≡ i ∷ places_left next → CanPassAll next.ends.now next.left next.at →
        same_halves (written_halves file ends i) y ≡ true → Aligning file ends start all next l
    aligning_on {i = i} a e c h = record {
      rest_at = rest-on a.rest_at e c;
      keeps = λ z front q r.
          a.keeps z (written_halves file ends i ∷ front)
          (ap (written_at file ends) e ∙ ap (λ y. written_halves file ends i ∷ y) q)
          (matches-more _ _ _ _ h r);
    }

    pub aligning_part : {next : Members} {p l : List Halves} → Aligning file ends start all rest (p ++ l) →
        Parted file ends (places_left rest) p next → Aligning file ends start all next l
    aligning_part {next} a p = record {
      rest_at = p.rest_at;
      keeps = λ z front q r.
          a.keeps z (p.front ++ front)
          (p.split ∙ ap (λ l. p.front ++ l) q ∙ sym (append_assoc p.front front z))
          (matches-append _ _ _ _ p.matches r);
    }

    pub aligning_end : Aligning file ends start all rest [] → FrontMatches start all (written_at file ends (places_left rest))
    aligning_end a = a.keeps (written_at file ends (places_left rest)) [] refl matches-none

  -- two iterators passed together
  pub seen_start : {k from : ℕ} {rest it : Members} (view : View) → StartsAt ends k from it → MembersAt file ends k from →
      RestAt file ends rest →
      Aligning file ends (written_at file ends (places_left rest)) (seen_all file ends view k from) rest
      (map (seen_as file ends view) (places_left it))
  seen_start {k} {from} {rest} {it} view h m r =
      subst (λ l. Aligning file ends (written_at file ends (places_left rest)) l rest (map (seen_as file ends view) (places_left it)))
      (ap (map (seen_as file ends view)) (start-places h) ∙ sym (seen-places file ends view k from))
      (aligning_start r)

  module _ {start all : List Halves} {rest : Members} (view : View) (it : Members)
      (a : Aligning file ends start all rest (map (seen_as file ends view) (places_left it))) where
    pub seen-on : (next' : Members) {next : Members} {i j : ℕ} {b : Bool} → places_left it ≡ j ∷ places_left next' →
        places_left rest ≡ i ∷ places_left next → CanPassAll next.ends.now next.left next.at →
        b ≡ same_halves (written_halves file ends i) (seen_as file ends view j) → b ≡ true →
        Aligning file ends start all next (map (seen_as file ends view) (places_left next'))
    seen-on next' f e c s h = aligning_on (subst (λ l. Aligning file ends start all rest (map (seen_as file ends view) l)) f a) e c (sym s ∙ h)

    pub seen_end : places_left it ≡ [] → FrontMatches start all (written_at file ends (places_left rest))
    seen_end e = aligning_end (subst (λ l. Aligning file ends start all rest (map (seen_as file ends view) l)) e a)

  -- piles passed one by one
  pub pile-on : {start all : List Halves} {rest next : Members} (piles : List Pile) (i : ℕ) (d : Pile) → i < length piles →
      Aligning file ends start all rest (piles_numbers file ends (drop i piles)) →
      Parted file ends (places_left rest) (pile_numbers file ends (get_or piles i d)) next →
      Aligning file ends start all next (piles_numbers file ends (drop (i + 1) piles))
  unfolding piles_numbers
  pile-on {start} {all} {rest} piles i d h a p =
      aligning_part (subst (Aligning file ends start all rest) (at_drop_more (piles_numbers file ends) piles i d h) a) p

  pub parted_is : {places : List ℕ} {rest : Members} {l : List Halves} → RestAt file ends rest →
      FrontMatches (written_at file ends places) l (written_at file ends (places_left rest)) → Parted file ends places l rest
  parted_is r m = record { rest_at = r; front = m.front; split = m.split; matches = m.matches }

  pub part_one : {rest next : Members} {i : ℕ} {y : Halves} → RestAt file ends rest → places_left rest ≡ i ∷ places_left next →
      CanPassAll next.ends.now next.left next.at → same_halves (written_halves file ends i) y ≡ true →
      Parted file ends (places_left rest) (y ∷ []) next
  part_one r e c h = let a = aligning_on (aligning_start r) e c h in parted_is a.rest_at (aligning_end a)

  -- by pile
  module _ {rest : Members} {r : Option Members} (pile : Pile) where
    pub of-pile_one : (f b : ℕ) → pile ≡ One f b → Aligns file ends rest (item_halves file ends (pair_item f b) ∷ []) r →
        Aligns file ends rest (pile_numbers file ends pile) r
    unfolding pile_numbers
    of-pile_one f b e x = rw e x

    pub of-pile_set : (q k : ℕ) (view : View) → pile ≡ Set q view → k ≡ count_at file q →
        Aligns file ends rest (seen_all file ends view k (q + 1)) r → Aligns file ends rest (pile_numbers file ends pile) r
    unfolding pile_numbers
    of-pile_set q k view e c x =
        rw e (subst (λ m. Aligns file ends rest (seen_all file ends view m (q + 1)) r) c x)

  -- nothing is left on either side
  pub aligned_is : (k at : ℕ) (piles : List Pile) (i : ℕ) {rest : Members} → length piles ≤ i →
      Aligning file ends (written file ends k at) (piles_numbers file ends piles) rest (piles_numbers file ends (drop i piles)) →
      places_left rest ≡ [] → Matches (written file ends k at) (piles_numbers file ends piles)
  unfolding piles_numbers
  aligned_is k at piles i {rest} h a e =
      let m =
      aligning_end
      (subst (Aligning file ends (written file ends k at) (piles_numbers file ends piles) rest)
      (at_drop_all (piles_numbers file ends) piles i h) a) in
      subst (λ l. Matches l (piles_numbers file ends piles))
      (sym (m.split ∙ ap (λ l. m.front ++ written_at file ends l) e ∙ append-nil m.front))
      m.matches

-- each of two lists that match stands in the other
or-true : (b : Bool) → (b || true) ≡ true
or-true true = refl
or-true false = refl

stands_at : (x y : Halves) (k l : List Halves) → same_halves x y ≡ true → stands_in x (k ++ (y ∷ l)) ≡ true
unfolding stands_in
stands_at x y [] l h = rw h
stands_at x y (z ∷ k) l h = rw (stands_at x y k l h) (or-true (same_halves x z))

within-tail : (k l p : List Halves) → Matches k l → within_all k (p ++ l) ≡ true
unfolding within_all Matches
within-tail [] l p m = refl
within-tail (x ∷ k) [] p m = absurd m
within-tail (x ∷ k) (y ∷ l) p m =
    and_both (stands_at x y p l m.0)
    (ap (within_all k) (sym (append_assoc p (y ∷ []) l)) ∙ within-tail k l (p ++ (y ∷ [])) m.1)

matches-sym : (k l : List Halves) → Matches k l → Matches l k
unfolding Matches
matches-sym [] [] m = m
matches-sym [] (y ∷ l) m = m
matches-sym (x ∷ k) [] m = m
matches-sym (x ∷ k) (y ∷ l) m = (same_halves-sym y x ∙ m.0, matches-sym k l m.1)

pub same_all-matches : (k l : List Halves) → Matches k l → true ≡ same_all k l
same_all-matches k l m = sym (and_both (within-tail k l [] m) (within-tail l k [] (matches-sym k l m)))

-- a written set by the code's count of its members
module _ (file ends : List ℕ) (p : ℕ) (piles : List Pile) {k at : ℕ} (e : k ≡ count_at file p) (f : at ≡ p + 1) where
  abbrev all : List Halves
  all = piles_numbers file ends piles

  set_is : written file ends k at ≡ written_set file ends p
  set_is = ap₂ (written file ends) e f

  pub same-found : {b : Bool} → Aligned file ends k at piles b → b ≡ true → true ≡ same_all (written_set file ends p) all
  same-found a h = same_all-matches (written_set file ends p) all (subst (λ l. Matches l all) set_is (a.does h))
