-- Lists joined and left out, and piles by what they are.
-- Assumes nothing.
--     stands-append, within-append                    of lists joined
--     pile_one, pile_set, pile_without                what a pile names stands there
--     of_one, of-set, of-without                      a test of a pile's halves
--     pile-there                                      what one of some piles names stands there
--     each-pile                                       what holds of each pile may be asked at each
--     stands-piles, within-piles                      an element of piles, each element of them
use mathlib.Core.Path.{◌≡◌, refl, sym, ap, subst, ◌∙◌}
use mathlib.Core.Bool.{Bool, true, false, ◌&&◌, ◌||◌}
use mathlib.Core.List.{List, [], ◌∷◌, ◌++◌}
use Prim.Native.Nat.{ℕ, zero, suc, ◌+◌, ◌<◌}
use lib.ListN.{length, get_or}
use native.Mathlib.Omega.{arith}
use denote.Ref.{Bor}
use Rattle.std.specs.Iterator.{CallableAtEachTurn}
use Rattle.std.specs.List.{list_any, list_all}
use Rattle.std.specs.declared.slice.Iter.{Iter}
use Rattle.std.specs.Slice.Iter.{iter_rest}
use Rattle.std.proofs.iter.Yields.{fronts}
use Rattle.std.proofs.lemmas.Iterator.{YieldsList-from_slice}
use Rattle.std.proofs.lemmas.Iterator.Adapters.{serves_from_places}
use Rattle.language.specs.Syntax.{Boolean}
use Rattle.matching.specs.Places.{ExpressionAt, AnyAt}
use Rattle.sets.specs.Items.{Halves, pair_item, item_halves, same_halves}
use Rattle.sets.specs.Lists.{seen_all, written, stands_in, within_all, without_all}
use Rattle.sets.specs.Standing.{MembersAt, ViewAt}
use Rattle.sets.specs.Piles.{count_at, pile_numbers, piles_numbers, AnySetAt, PileAt, PilesAt}
use Rattle.sets.specs.declared.item.View.{View}
use Rattle.sets.specs.declared.pile.Pile.{Pile}
use Rattle.sets.specs.declared.pile.Pile.TheVariants.{One, Set, Without}

or_assoc : (a b c : Bool) → ((a || b) || c) ≡ (a || (b || c))
or_assoc true b c = refl
or_assoc false b c = refl

and_assoc : (a b c : Bool) → ((a && b) && c) ≡ (a && (b && c))
and_assoc true b c = refl
and_assoc false b c = refl

or-none : (a : Bool) → a ≡ (a || false)
or-none true = refl
or-none false = refl

and_none : (a : Bool) → a ≡ (a && true)
and_none true = refl
and_none false = refl

pub stands-append : (x : Halves) (k l : List Halves) → stands_in x (k ++ l) ≡ (stands_in x k || stands_in x l)
unfolding stands_in
stands-append x [] l = refl
stands-append x (y ∷ k) l =
    ap (λ b. same_halves x y || b) (stands-append x k l) ∙ sym (or_assoc (same_halves x y) (stands_in x k) (stands_in x l))

pub within-append : (k l p : List Halves) → within_all (k ++ l) p ≡ (within_all k p && within_all l p)
unfolding within_all
within-append [] l p = refl
within-append (x ∷ k) l p =
    ap (λ b. stands_in x p && b) (within-append k l p) ∙ sym (and_assoc (stands_in x p) (within_all k p) (within_all l p))

-- what a pile names stands there
module _ {file ends : List ℕ} where
  pub pile_one : (pile : Pile) {f b : ℕ} → PileAt file ends pile → pile ≡ One f b → ExpressionAt file ends Boolean f × AnyAt file ends b
  unfolding PileAt
  pile_one pile p e = rw e at p

  pub pile_set : (pile : Pile) {q : ℕ} {view : View} → PileAt file ends pile → pile ≡ Set q view →
      AnySetAt file ends q × ViewAt file ends view
  unfolding PileAt
  pile_set pile p e = rw e at p

  pub pile_without : (pile : Pile) {t s : ℕ} → PileAt file ends pile → pile ≡ Without t s →
      AnySetAt file ends t × AnySetAt file ends s
  unfolding PileAt
  pile_without pile p e = rw e at p

  -- as many members as the code counts
  pub set-members : {q k : ℕ} → AnySetAt file ends q → k ≡ count_at file q → MembersAt file ends k (q + 1)
  set-members {q} s e = subst (λ k. MembersAt file ends k (q + 1)) (sym e) s.members

-- the test whether a list holds each of another
abbrev pub held_by : List Halves → List Halves → Bool
held_by p l = within_all l p

-- a test of a pile's halves, by pile
module _ (file ends : List ℕ) (test : List Halves → Bool) (pile : Pile) where
  pub of_one : {r : Bool} (f b : ℕ) → pile ≡ One f b → r ≡ test (item_halves file ends (pair_item f b) ∷ []) →
      r ≡ test (pile_numbers file ends pile)
  unfolding pile_numbers
  of_one f b e h = rw e h

  pub of-set : {r : Bool} (q k : ℕ) (view : View) → pile ≡ Set q view → k ≡ count_at file q →
      r ≡ test (seen_all file ends view k (q + 1)) → r ≡ test (pile_numbers file ends pile)
  unfolding pile_numbers
  of-set {r} q k view e c h = rw e (subst (λ n. r ≡ test (seen_all file ends view n (q + 1))) c h)

  pub of-without : {r : Bool} (t s k l : ℕ) → pile ≡ Without t s → k ≡ count_at file t → l ≡ count_at file s →
      r ≡ test (without_all (written file ends k (t + 1)) (written file ends l (s + 1))) →
      r ≡ test (pile_numbers file ends pile)
  unfolding pile_numbers
  of-without {r} t s k l e c d h =
      rw e
      (subst (λ n. r ≡ test (without_all (written file ends (count_at file t) (t + 1)) (written file ends n (s + 1)))) d
      (subst (λ n. r ≡ test (without_all (written file ends n (t + 1)) (written file ends l (s + 1)))) c h))

pub stands_one : (x y : Halves) {r : Bool} → r ≡ same_halves x y → r ≡ stands_in x (y ∷ [])
unfolding stands_in
stands_one x y e = e ∙ or-none (same_halves x y)

pub within-one : (y : Halves) (p : List Halves) {r : Bool} → r ≡ stands_in y p → r ≡ within_all (y ∷ []) p
unfolding within_all
within-one y p e = e ∙ and_none (stands_in y p)

-- piles together
module _ (file ends : List ℕ) where
  pub pile-there : (piles : List Pile) → PilesAt file ends piles → (i : ℕ) (d : Pile) → i < length piles →
      PileAt file ends (get_or piles i d)
  unfolding PilesAt
  pile-there [] p i d h = absurd (omega arith)
  pile-there (pile ∷ piles) p zero d h = p.0
  pile-there (pile ∷ piles) p (suc i) d h = pile-there piles p.1 i d (omega arith)

  -- what holds of each pile may be asked at each
  pub each-pile : {piles : List Pile} {s : Iter Pile} → PilesAt file ends piles → iter_rest s ≡ piles →
      {F : Type 0} {R : F → Bor Pile → F → Type 0} {Q : F → Bor Pile → Type 0} {f : F} →
      ((x : Bor Pile) (q : F) → R f x q → q ≡ f) → ((x : Bor Pile) → PileAt file ends x.now → Q f x) →
      CallableAtEachTurn fronts R Q s f
  each-pile {piles} p e r q =
      serves_from_places (YieldsList-from_slice piles e) r (λ x i l h. q x (subst (PileAt file ends) (sym h) (pile-there piles p i x.now l)))

module _ (file ends : List ℕ) where
  pub stands-piles : (x : Halves) (piles : List Pile) →
      list_any (λ pile. stands_in x (pile_numbers file ends pile)) piles ≡ stands_in x (piles_numbers file ends piles)
  unfolding piles_numbers stands_in
  stands-piles x [] = refl
  stands-piles x (pile ∷ piles) =
      ap (λ b. stands_in x (pile_numbers file ends pile) || b) (stands-piles x piles)
      ∙ sym (stands-append x (pile_numbers file ends pile) (piles_numbers file ends piles))

  pub within-piles : (p : List Halves) (piles : List Pile) →
      list_all (λ pile. within_all (pile_numbers file ends pile) p) piles ≡ within_all (piles_numbers file ends piles) p
  unfolding piles_numbers within_all
  within-piles p [] = refl
  within-piles p (pile ∷ piles) =
      ap (λ b. within_all (pile_numbers file ends pile) p && b) (within-piles p piles)
      ∙ sym (within-append (pile_numbers file ends pile) (piles_numbers file ends piles) p)
