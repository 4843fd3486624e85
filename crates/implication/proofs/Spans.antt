-- Ranges of words: skipped, and compared by their slices.
-- Assumes nothing.
--     below                                    the order of two numbers
--     Bare, bare-none, bare-one, bare-join     words of no boolean
--     slices-alike, alike-slices               two ranges have the same words where their slices are equal
--     same_range, as_long                      the same, by a test of slices that are as long
use mathlib.Core.Path.{◌≡◌, refl, sym, ap, ◌∙◌}
use mathlib.Core.Bool.{Bool, true, false, false≢true}
use mathlib.Core.List.{List}
use mathlib.Core.Logic.{◌⊎◌, inl, inr, ⊎_elim}
use Prim.Native.Nat.{ℕ, ◌+◌, ◌-◌, ◌<◌, ◌≤◌}
use native.Mathlib.Omega.{arith}
use borrow.Author.Tests.{ltb-true, ltb-false}
use lib.Dec.{ltb}
use lib.ListN.{length, get_or, drop}
use Rattle.std.specs.Prelude.{slice_range, Decides}
use Rattle.std.proofs.lemmas.List.{length-take-le, length-drop, get_or-take, get_or-drop, ext_get_or}
use Rattle.implication.specs.Sides.{RangeFits}
use Rattle.implication.specs.Scanning.{byte_at, SameRange, Compares}

pub below : (j k : ℕ) → (j < k) ⊎ (k ≤ j)
below j k = go (ltb j k) refl
  where
    go : (b : Bool) → ltb j k ≡ b → (j < k) ⊎ (k ≤ j)
    go true e = inl (ltb-true j k e)
    go false e = inr (ltb-false j k e)

-- ---- words of no boolean
pub record Bare (w : List ℕ) (a b : ℕ) : Type 0 where
  pub bare : (x : ℕ) → a ≤ x → x < b → byte_at w x ≡ 21

module _ {w : List ℕ} where
  pub bare-none : {a b : ℕ} → b ≤ a → Bare w a b
  bare-none h = record { bare = λ x l m. absurd (omega arith) }

  pub bare-join : {a b : ℕ} (m : ℕ) → Bare w a m → Bare w m b → Bare w a b
  bare-join m f g = record {
    bare = λ x l h. ⊎_elim (λ (k : x < m). f.bare x l k) (λ (k : m ≤ x). g.bare x k h) (below x m);
  }

  pub bare-one : (a : ℕ) → byte_at w a ≡ 21 → Bare w a (a + 1)
  bare-one a e = record { bare = λ x l h. ap (byte_at w) (at x l h) ∙ e }
    where
      at : (x : ℕ) → a ≤ x → x < a + 1 → x ≡ a
      at x l h = omega arith

-- ---- two ranges
slice-length : (w : List ℕ) (a b : ℕ) → a ≤ b → b ≤ length w → length (slice_range w a b) ≡ b - a
slice-length w a b h k = length-take-le (b - a) (drop a w) (omega (arith, length-drop a w))

slice-at : (w : List ℕ) (a b x : ℕ) → x < b - a → get_or (slice_range w a b) x 0 ≡ get_or w (a + x) 0
slice-at w a b x i = get_or-take (b - a) (drop a w) x 0 i ∙ get_or-drop a w x 0

-- ranges within the words have the same words where the slices are equal
module _ {w : List ℕ} {a b p q : ℕ} (h : a ≤ b) (k : b ≤ length w) (l : p ≤ q) (m : q ≤ length w) where
  slices-alike : slice_range w a b ≡ slice_range w p q → SameRange w a b p q
  slices-alike e =
      let f : b - a ≡ q - p = sym (slice-length w a b h k) ∙ ap length e ∙ slice-length w p q l m in record {
        long = f;
        same = record {
          same = λ x i.
              sym (slice-at w a b x i) ∙ ap (λ (z : List ℕ). get_or z x 0) e ∙ slice-at w p q x (omega arith);
        };
      }

  alike-slices : SameRange w a b p q → slice_range w a b ≡ slice_range w p q
  alike-slices s =
      ext_get_or 0 (slice_range w a b) (slice_range w p q)
      (slice-length w a b h k ∙ s.long ∙ sym (slice-length w p q l m))
      (λ x i.
      let j : x < b - a = omega (arith, slice-length w a b h k) in
      slice-at w a b x j ∙ s.same.same x j ∙ sym (slice-at w p q x (omega (arith, s.long))))

-- by a test of the slices
pub same_range : {w : List ℕ} {a b p q : ℕ} {r : Bool} → RangeFits (length w) a b → RangeFits (length w) p q →
    Decides r (slice_range w a b ≡ slice_range w p q) → Compares w a b p q r
same_range h l d = record {
  sound = λ e. slices-alike h.0 h.1 l.0 l.1 (d.0 e);
  complete = λ e s. false≢true (sym e ∙ d.1 (alike-slices h.0 h.1 l.0 l.1 s));
}

pub as_long : (w : List ℕ) {a b p q : ℕ} → RangeFits (length w) a b → RangeFits (length w) p q → b - a ≡ q - p →
    length (slice_range w a b) ≡ length (slice_range w p q)
as_long w {a} {b} {p} {q} h l e = slice-length w a b h.0 h.1 ∙ e ∙ sym (slice-length w p q l.0 l.1)
