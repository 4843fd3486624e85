-- Numbers spell words: two lists of words in range with the same numbers are one.
-- Assumes nothing.
--     stands-between    words that stand between two places have the numbers there
--     numbers-append    one list after the other
--     numbers-tell      the numbers of words in range tell them
use mathlib.Core.Path.{◌≡◌, refl, ap, ap₂, ◌∙◌}
use mathlib.Core.List.{List, [], ◌∷◌, ◌++◌, head-eq_of_cons-eq, tail-eq_of_cons-eq, cons≢nil, nil≢cons}
use Prim.Native.Nat.{ℕ, ◌+◌}
use native.Mathlib.Omega.{arith}
use Rattle.rules.specs.Words.{Word}
use Rattle.layout.specs.Spelling.{encode}
use Rattle.layout.specs.Nodes.{AllInRange}
use Rattle.layout.specs.Standing.{StandsTo}
use Rattle.layout.proofs.Nodes.{encode-tells, words_inside}
use Rattle.matching.specs.Matching.{between, numbers}
use Rattle.matching.proofs.Ranges.{between_none, between_first}

pub stands-between : (file : List ℕ) (at : ℕ) (l : List Word) (p : ℕ) → StandsTo file at l p → between file at p ≡ numbers l
unfolding numbers
stands-between file at [] p s = between_none file at p (omega arith)
stands-between file at (v ∷ l) p s =
    let i = words_inside file at v l p s in
    between_first file at p i.start i.within ∙ ap₂ ◌∷◌ s.1 (stands-between file (at + 1) l p s.2)

pub numbers-append : (k l : List Word) → numbers (k ++ l) ≡ numbers k ++ numbers l
unfolding numbers
numbers-append [] l = refl
numbers-append (v ∷ k) l = ap (λ z. encode v ∷ z) (numbers-append k l)

pub numbers-tell : (k l : List Word) → AllInRange k → AllInRange l → numbers k ≡ numbers l → k ≡ l
unfolding numbers
numbers-tell [] [] f g e = refl
numbers-tell [] (w ∷ l) f g e = absurd (nil≢cons e)
numbers-tell (v ∷ k) [] f g e = absurd (cons≢nil e)
numbers-tell (v ∷ k) (w ∷ l) f g e =
    ap₂ ◌∷◌
    (encode-tells v w f.0 g.0 (head-eq_of_cons-eq e))
    (numbers-tell k l f.1 g.1 (tail-eq_of_cons-eq e))
