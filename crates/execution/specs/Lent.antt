-- The store that is lent to the runner (document 01, "Runner"): 32 scalars and 2,048 array values.
-- Trusted. Assumes nothing.
--     Lent, lent       the two lists; made of them
--     store_of          the store that they give
--     element_at        the value of an array at an index
--     elements         an array's values at 0 to 63
--     HeldBy           a store holds the lent values: the scalars, and the arrays at 0 to 63
use Rattle.std.specs.Prelude.{◌≡◌, List, [], ◌∷◌, ℕ, zero, suc, ◌+◌, ◌*◌, ◌<◌, ℤ, pos, negsuc, get_or}
use Rattle.language.specs.Store.{Store}

-- the calls lend signed 64-bit numbers; nothing here rests on that, since a value is tested where it is made
pub record Lent : Type 0 where
  pub scalars : List ℤ
  pub values : List ℤ

abbrev pub lent : List ℤ → List ℤ → Lent
lent ss vs = record { scalars = ss; values = vs }

-- array a's index i is value 64 × a + i; other indexes are read by no run, as `evaluated` of proofs/Evaluated says
abbrev pub element_at : List ℤ → ℕ → ℤ → ℤ
element_at v a (pos i) = get_or v (64 * a + i) (pos 0)
element_at v a (negsuc i) = pos 0

abbrev pub store_of : Lent → Store
store_of m = record { scalars = λ x. get_or m.scalars x (pos 0); arrays = element_at m.values }

-- the values at n indexes from i on
unfoldable pub elements_from : ℕ → ℕ → (ℤ → ℤ) → List ℤ
elements_from zero i f = []
elements_from (suc n) i f = f (pos i) ∷ elements_from n (suc i) f

abbrev pub elements : (ℤ → ℤ) → List ℤ
elements f = elements_from 64 0 f

pub record HeldBy (m : Lent) (s : Store) : Type 0 where
  pub scalars-held : (x : ℕ) → x < 32 → get_or m.scalars x (pos 0) ≡ s.scalars x
  pub arrays-held : (a i : ℕ) → a < 32 → i < 64 → get_or m.values (64 * a + i) (pos 0) ≡ s.arrays a (pos i)
