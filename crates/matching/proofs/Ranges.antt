-- The numbers of a file between two places.
-- Assumes nothing.
--     between_none, between_first    none, the first and the others
--     between_range                  as a range of a slice
--     between_join                   up to a place and from there on
--     between-last                   those before the last, and the last
--     between-length                 how many
use mathlib.Core.Path.{◌≡◌, sym, ap, ◌∙◌}
use mathlib.Core.List.{List, [], ◌∷◌, ◌++◌}
use Prim.Native.Nat.{ℕ, zero, suc, ◌+◌, ◌-◌, ◌<◌, ◌≤◌}
use native.Mathlib.Numerals.{add-one}
use native.Mathlib.Omega.{arith}
use lib.ListN.{length, get_or, take, drop, length-take, length-drop, drop_of_length-le}
use lib.Seq.{slice-cons}
use Rattle.std.proofs.lemmas.List.{drop-take}
use Rattle.matching.specs.Matching.{between}

module _ (file : List ℕ) where
  pub between_none : (a e : ℕ) → e ≤ a → between file a e ≡ []
  unfolding between
  between_none a e h = drop_of_length-le (take e file) {i = a} (simp length-take (omega arith))

  pub between_first : (a e : ℕ) → a < e → e ≤ length file →
      between file a e ≡ get_or file a 0 ∷ between file (a + 1) e
  unfolding between
  between_first a e h k = rw add-one (slice-cons a e file 0 h k)

  -- `&w[a..e]`
  pub between_range : (a e : ℕ) → a ≤ e → take (e - a) (drop a file) ≡ between file a e
  unfolding between
  between_range a e h =
      let k : a + (e - a) ≡ e = omega arith in
      sym (drop-take a (e - a) file) ∙ ap (λ n. drop a (take n file)) k

  join : (n a q e : ℕ) → q ≡ a + n → q ≤ e → e ≤ length file →
      between file a e ≡ between file a q ++ between file q e
  join zero a q e h k l =
      let same : q ≡ a = omega arith in
      rw (same, between_none a a (omega arith))
  join (suc n) a q e h k l =
      rw (between_first a e (omega arith) l, between_first a q (omega arith) (omega arith))
      (ap (λ z. get_or file a 0 ∷ z) (join n (a + 1) q e (omega arith) k l))

  pub between_join : (a q e : ℕ) → a ≤ q → q ≤ e → e ≤ length file →
      between file a e ≡ between file a q ++ between file q e
  between_join a q e h k l = join (q - a) a q e (omega arith) k l

  pub between-last : (a e : ℕ) → a < e → e ≤ length file →
      between file a e ≡ between file a (e - 1) ++ (get_or file (e - 1) 0 ∷ [])
  between-last a e h k =
      between_join a (e - 1) e (omega arith) (omega arith) k
      ∙ ap (λ z. between file a (e - 1) ++ z)
      (between_first (e - 1) e (omega arith) k
      ∙ ap (λ z. get_or file (e - 1) 0 ∷ z) (between_none (e - 1 + 1) e (omega arith)))

  pub between-length : (a e : ℕ) → e ≤ length file → length (between file a e) ≡ e - a
  unfolding between
  between-length a e h = simp (length-drop, length-take) (omega arith)
