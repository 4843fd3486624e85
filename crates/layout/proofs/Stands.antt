-- Words between two places: standing words joined and parted.
-- Assumes nothing.
--     stands-end, stands-inside         where they end
--     stands-spelled, spelled-stands    the same by the place where they start, and their number
--     first, rest, both, parted         a word before others, and what stands after it; words before others, and back
--     chain-stands, stands-chain        parts one after the other, and back
use mathlib.Core.Path.{◌≡◌, refl, sym, subst}
use mathlib.Core.List.{List, [], ◌∷◌, ◌++◌}
use Prim.Native.Nat.{ℕ, ◌+◌, ◌<◌, ◌≤◌}
use native.Mathlib.Omega.{arith}
use lib.ListN.{length}
use Rattle.rules.specs.Words.{Word}
use Rattle.layout.specs.Bytes.{word_count, number_at}
use Rattle.layout.specs.Spelling.{encode, SpelledAt}
use Rattle.layout.specs.EvidenceWords.{Part, joined, EachFits}
use Rattle.layout.specs.Standing.{StandsTo, Stands, Chain}

module _ (file : List ℕ) where
  pub stands-end : (at : ℕ) (l : List Word) (p : ℕ) → StandsTo file at l p → p ≡ at + length l
  stands-end at [] p h = omega arith
  stands-end at (w ∷ l) p h = let e = stands-end (at + 1) l p h.2 in omega arith

  pub stands-inside : (at : ℕ) (l : List Word) (p : ℕ) → StandsTo file at l p → at ≤ word_count file → p ≤ word_count file
  stands-inside at [] p h k = omega arith
  stands-inside at (w ∷ l) p h k = stands-inside (at + 1) l p h.2 (omega (arith, h.0))

  pub stands-spelled : (at : ℕ) (l : List Word) (p : ℕ) → StandsTo file at l p → SpelledAt file at l
  stands-spelled at [] p h = tt
  stands-spelled at (w ∷ l) p h = (h.0, h.1, stands-spelled (at + 1) l p h.2)

  pub spelled-stands : (at : ℕ) (l : List Word) (p : ℕ) → SpelledAt file at l → p ≡ at + length l → StandsTo file at l p
  spelled-stands at [] p h e = omega arith
  spelled-stands at (w ∷ l) p h e = (h.0, h.1, spelled-stands (at + 1) l p h.2 (omega arith))

  stands-append : (at : ℕ) (l m : List Word) (q p : ℕ) → StandsTo file at l q → StandsTo file q m p →
      StandsTo file at (l ++ m) p
  stands-append at [] m q p h k = rw h k
  stands-append at (w ∷ l) m q p h k = (h.0, h.1, stands-append (at + 1) l m q p h.2 k)

  stands-split : (at : ℕ) (l m : List Word) (p : ℕ) → StandsTo file at (l ++ m) p →
      (q : ℕ) × StandsTo file at l q × StandsTo file q m p
  stands-split at [] m p h = (at, refl, h)
  stands-split at (w ∷ l) m p h =
      let x = stands-split (at + 1) l m p h.2 in
      (x.0, (h.0, h.1, x.1), x.2)

module _ {file : List ℕ} where
  pub first : {w : Word} {l : List Word} {F : Type 0} {at p : ℕ} → at < word_count file → number_at file at ≡ encode w →
      Stands file l F (at + 1) p → Stands file (w ∷ l) F at p
  first h e s = record { stand = (h, e, s.stand); fit = s.fit }

  -- what stands after a word
  pub rest : {w : Word} {l : List Word} {F : Type 0} {at p : ℕ} → Stands file (w ∷ l) F at p → Stands file l F (at + 1) p
  rest s = record { stand = s.stand.2; fit = s.fit }

  -- without a fact that comes first
  pub less-fit : {l : List Word} {F G : Type 0} {at p : ℕ} → Stands file l (F × G) at p → Stands file l G at p
  less-fit s = record { stand = s.stand; fit = s.fit.1 }

  pub both : {l m : List Word} {F G : Type 0} {at q p : ℕ} → Stands file l F at q → Stands file m G q p →
      Stands file (l ++ m) (F × G) at p
  both {l} {m} {at} {q} {p} s t =
      record { stand = stands-append file at l m q p s.stand t.stand; fit = (s.fit, t.fit) }

  -- with the place between them
  pub parted : (l m : List Word) {F G C : Type 0} {at p : ℕ} → Stands file (l ++ m) (F × G) at p →
      ((q : ℕ) → Stands file l F at q → Stands file m G q p → C) → C
  parted l m {at} {p} s f =
      let x = stands-split file at l m p s.stand in
      f x.0 (record { stand = x.1; fit = s.fit.0 }) (record { stand = x.2; fit = s.fit.1 })

  pub chain-stands : (l : List Part) (d at p : ℕ) → Chain file l d at p → Stands file (joined l) (EachFits l d at) at p
  unfolding joined EachFits
  chain-stands [] d at p h = record { stand = h; fit = tt }
  chain-stands (x ∷ l) d at p h =
      let t = chain-stands l d h.0 p h.2 in
      let e = stands-end file at x.spelling h.0 h.1.stand in
      record {
        stand = stands-append file at x.spelling (joined l) h.0 p h.1.stand t.stand;
        fit = (h.1.fit, subst (λ q. EachFits l d q) e t.fit);
      }

  pub stands-chain : (l : List Part) (d at p : ℕ) → Stands file (joined l) (EachFits l d at) at p → Chain file l d at p
  unfolding joined EachFits
  stands-chain [] d at p s = s.stand
  stands-chain (x ∷ l) d at p s =
      let y = stands-split file at x.spelling (joined l) p s.stand in
      let e = stands-end file at x.spelling y.0 y.1 in (
        y.0,
        record { stand = y.1; fit = s.fit.0 },
        stands-chain l d y.0 p
            (record { stand = y.2; fit = subst (λ q. EachFits l d q) (sym e) s.fit.1 }),
      )
