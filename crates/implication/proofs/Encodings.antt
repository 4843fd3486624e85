-- Words in range are known by their numbers: two ranges with the same numbers spell the same words.
-- Assumes nothing.
--     same-comparison, comparison_same     ranges with the same numbers have one comparison, and back
use mathlib.Core.Path.{◌≡◌, refl, sym, ap, ap₂, subst, ◌∙◌}
use mathlib.Core.List.{List, [], ◌∷◌}
use Prim.Native.Nat.{ℕ, zero, suc, ◌+◌, ◌<◌}
use native.Mathlib.Omega.{arith}
use lib.ListN.{length, get_or}
use Rattle.rules.specs.Words.{Word}
use Rattle.layout.specs.Nodes.{AllInRange}
use Rattle.layout.specs.Standing.{StandsTo}
use Rattle.layout.proofs.Stands.{stands-end}
use Rattle.layout.proofs.Nodes.{encode-tells}
use Rattle.implication.specs.Scanning.{SameRange}
use Rattle.implication.specs.Compiling.{Compared}

module _ (w : List ℕ) where
  shift : (at x : ℕ) → get_or w (at + 1 + x) 0 ≡ get_or w (at + suc x) 0
  shift at x = ap (λ (z : ℕ). get_or w z 0) (omega arith)

  start : (at : ℕ) → get_or w (at + 0) 0 ≡ get_or w at 0
  start at = ap (λ (z : ℕ). get_or w z 0) (omega arith)

  spelled_same : (l m : List Word) (a b p q : ℕ) → StandsTo w a l b → StandsTo w p m q → AllInRange l → AllInRange m →
      length l ≡ length m → ((x : ℕ) → x < length l → get_or w (a + x) 0 ≡ get_or w (p + x) 0) → l ≡ m
  spelled_same [] [] a b p q s t h k e f = refl
  spelled_same [] (u ∷ m) a b p q s t h k e f = absurd (omega arith)
  spelled_same (v ∷ l) [] a b p q s t h k e f = absurd (omega arith)
  spelled_same (v ∷ l) (u ∷ m) a b p q s t h k e f =
      ap₂ ◌∷◌
      (encode-tells v u h.0 k.0
      (sym s.1 ∙ sym (start a) ∙ f 0 (omega arith) ∙ start p ∙ t.1))
      (spelled_same l m (a + 1) b (p + 1) q s.2 t.2 h.1 k.1 (omega arith)
      (λ x i. shift a x ∙ f (suc x) (omega arith) ∙ sym (shift p x)))

  same-spelled : (l : List Word) (a b p q : ℕ) → StandsTo w a l b → StandsTo w p l q → (x : ℕ) → x < length l →
      get_or w (a + x) 0 ≡ get_or w (p + x) 0
  same-spelled [] a b p q s t x h = absurd (omega arith)
  same-spelled (v ∷ l) a b p q s t zero h = start a ∙ s.1 ∙ sym t.1 ∙ sym (start p)
  same-spelled (v ∷ l) a b p q s t (suc x) h =
      sym (shift a x) ∙ same-spelled l (a + 1) b (p + 1) q s.2 t.2 x (omega arith) ∙ shift p x

module _ {w : List ℕ} {a b p q : ℕ} {c d : List Word} (x : Compared w a c b) (y : Compared w p d q) where
  pub same-comparison : SameRange w a b p q → c ≡ d
  same-comparison s =
      let e = stands-end w a c b x.stand in
      let f = stands-end w p d q y.stand in
      spelled_same w c d a b p q x.stand y.stand x.fits y.fits
      (let g = s.long in omega arith)
      (λ i l. s.same.same i (omega arith))

  pub comparison_same : c ≡ d → SameRange w a b p q
  comparison_same z =
      let e = stands-end w a c b x.stand in
      let f = stands-end w p d q y.stand in
      let g : length c ≡ length d = ap length z in record {
        long = omega arith;
        same = record {
          same = λ i l.
              same-spelled w c a b p q x.stand (subst (λ k. StandsTo w p k q) (sym z) y.stand) i (omega arith);
        };
      }
