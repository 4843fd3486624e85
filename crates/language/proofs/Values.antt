-- Expressions whose identifiers have one value in two stores have one value there.
-- Assumes nothing.
--     InBoth         an identifier has one value in two stores
--     AllInBoth      each of a list has
--     same-value     an expression, by its identifiers
use mathlib.Core.Path.{◌≡◌, refl, ap, ap₂}
use mathlib.Core.Bool.{not, ◌&&◌, ◌||◌}
use mathlib.Core.List.{List, [], ◌∷◌, ◌++◌}
use Rattle.language.specs.Syntax.{Sort, Expr, constant, scalar, operation, select, compare, truth, and, or, neg}
use Rattle.language.specs.Syntax.{array, zeros, update}
use Rattle.language.specs.Store.{Store, same_integer, put, apply, relate, value}
use Rattle.language.specs.Modifies.{Identifier, scalar_of, array_of, identifiers}

abbrev pub InBoth : Store → Store → Identifier → Type 0
InBoth s t (scalar_of x) = s.scalars x ≡ t.scalars x
InBoth s t (array_of a) = s.arrays a ≡ t.arrays a

abbrev pub AllInBoth : Store → Store → List Identifier → Type 0
AllInBoth s t [] = Unit {0}
AllInBoth s t (x ∷ l) = InBoth s t x × AllInBoth s t l

module _ (s t : Store) where
  left : (l k : List Identifier) → AllInBoth s t (l ++ k) → AllInBoth s t l
  left [] k h = tt
  left (x ∷ l) k h = (h.0, left l k h.1)

  right : (l k : List Identifier) → AllInBoth s t (l ++ k) → AllInBoth s t k
  right [] k h = h
  right (x ∷ l) k h = right l k h.1

  pub same-value : {k : Sort} (e : Expr k) → AllInBoth s t (identifiers e) → value e s ≡ value e t
  unfolding value identifiers
  same-value (constant z) h = refl
  same-value (scalar x) h = h.0
  same-value (operation o a b) h =
      ap₂ (apply o) (same-value a (left (identifiers a) _ h)) (same-value b (right (identifiers a) _ h))
  same-value (select f i) h =
      λ j. same-value f (left (identifiers f) _ h) j (same-value i (right (identifiers f) _ h) j)
  same-value (compare r a b) h =
      ap₂ (relate r) (same-value a (left (identifiers a) _ h)) (same-value b (right (identifiers a) _ h))
  same-value (truth b) h = refl
  same-value (and b c) h =
      ap₂ ◌&&◌ (same-value b (left (identifiers b) _ h)) (same-value c (right (identifiers b) _ h))
  same-value (or b c) h =
      ap₂ ◌||◌ (same-value b (left (identifiers b) _ h)) (same-value c (right (identifiers b) _ h))
  same-value (neg b) h = ap not (same-value b h)
  same-value (array a) h = h.0
  same-value zeros h = refl
  same-value (update f i a) h =
      let rest = right (identifiers f) _ h in
      λ j. put same_integer (same-value f (left (identifiers f) _ h) j) (same-value i (left (identifiers i) _ rest) j)
      (same-value a (right (identifiers i) _ rest) j)
