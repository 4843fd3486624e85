-- Words and parts between two places of a file.
-- Working: `spelled` of proofs/Spelled and `stands_from` of proofs/Back say that it is to be spelled there. Assumes nothing.
--     StandsTo, Stands     words stand from a place up to another; with what is said to fit there
--     PartStands, Chain    a part of a file stands there, with so many levels left; parts one after the other
use Rattle.std.specs.Prelude.{◌≡◌, List, [], ◌∷◌, ℕ, ◌+◌, ◌<◌}
use Rattle.rules.specs.Words.{Word}
use Rattle.layout.specs.Bytes.{word_count, number_at}
use Rattle.layout.specs.Spelling.{encode}
use Rattle.layout.specs.EvidenceWords.{Part}

module _ (file : List ℕ) where
  -- the words stand from `at` up to p
  abbrev pub StandsTo : ℕ → List Word → ℕ → Type 0
  StandsTo at [] p = at ≡ p
  StandsTo at (w ∷ l) p = (at < word_count file) × (number_at file at ≡ encode w) × StandsTo (at + 1) l p

  -- the words stand there, and F holds
  pub record Stands (l : List Word) (F : Type 0) (at p : ℕ) : Type 0 where
    pub stand : StandsTo at l p
    pub fit : F

  -- a part stands there
  abbrev pub PartStands : Part → ℕ → ℕ → ℕ → Type 0
  PartStands x d at p = Stands x.spelling (x.fits d at) at p

  abbrev pub Chain : List Part → ℕ → ℕ → ℕ → Type 0
  Chain [] d at p = at ≡ p
  Chain (x ∷ l) d at p = (q : ℕ) × PartStands x d at q × Chain l d q p
