-- What readers yield: one law for each combinator of specs/Reading, for what was read and for refusals 3 to 5 together.
-- Assumes nothing.
--     IfThere, Optional, nothing, something               an entry of a table, where there is one
--     entry, up-to, on-option                             the tables: allow, up_to, on_option
--     FaultAt                                             a refusal 3, 4 or 5 at a place from `at` on, inside the file or at its end
--     Reach                                               a place from `at` on, inside the file if `at` is
--     YieldsBy, Yields                                    what was read is as said and ends at `at` or later
--     PastBy, Past                                        .. ends later and inside the file
--     past-yields, yields-map                             the weaker; of a weaker statement
--     start, _▹_, several-yields, level-past, due-past    pure, _⊛_, several, no_level, word_due
--     yields-here                                         the place at hand
--     reach_here, then-yields                             a place reached from itself; a reading after another
use mathlib.Core.Path.{◌≡◌, refl, ap}
use mathlib.Core.Bool.{Bool, true, false, cond}
use mathlib.Core.List.{List, [], ◌∷◌}
use mathlib.Core.Option.{Option, none, some}
use Prim.Native.Nat.{ℕ, zero, suc, ◌+◌, ◌<◌, ◌≤◌}
use native.Mathlib.Omega.{arith}
use borrow.Author.Tests.{eqb-true, leb-true, ltb-true}
use lib.Dec.{eqb, ltb, leb}
use lib.ListN.{length}
use Rattle.layout.specs.Bytes.{word_count, kind_at, payload_at}
use Rattle.layout.specs.Reading.{Reading, read, fault, Reader, on_read, pure, ◌⊛◌, several}
use Rattle.layout.specs.Reading.{here, no_level, allowed, word_due, up_to, on_option}
use Rattle.layout.proofs.Words.{WordFound, found_at}

-- P holds of what is there
abbrev pub IfThere : {A : Type 0} → (A → Type 0) → Option A → Type 0
IfThere P none = Unit {0}
IfThere P (some a) = P a

pub record Optional {A : Type 0} (P : A → Type 0) (o : Option A) : Type 0 where
  pub there : IfThere P o

module _ {A : Type 0} {P : A → Type 0} where
  pub nothing : Optional P none
  nothing = record { there = tt }

  pub something : {a : A} → P a → Optional P (some a)
  something h = record { there = h }

  pub entry : {x y : Option A} (k n : ℕ) → (k ≡ n → Optional P x) → Optional P y → Optional P (cond (eqb k n) x y)
  entry {x} {y} k n f g = go (eqb k n) refl
    where
      go : (b : Bool) → eqb k n ≡ b → Optional P (cond b x y)
      go true e = f (eqb-true k n e)
      go false e = g

  pub up-to : (n p : ℕ) (a : A) → (p ≤ n → P a) → Optional P (up_to n p a)
  up-to n p a f = go (leb p n) refl
    where
      go : (b : Bool) → leb p n ≡ b → Optional P (cond b (some a) none)
      go true e = something (f (leb-true p n e))
      go false e = nothing

  pub on-option : {B : Type 0} {Q : B → Type 0} (o : Option B) (f : B → A) → Optional Q o → ((b : B) → Q b → P (f b)) →
      Optional P (on_option o f)
  on-option none f h g = nothing
  on-option (some b) f h g = something (g b h.there)

module _ (file : List ℕ) where
  pub record FaultAt (at n p : ℕ) : Type 0 where
    pub least : 3 ≤ n
    pub most : n ≤ 5
    pub from : at ≤ p
    pub inside : p ≤ word_count file

  -- p is at `at` or later, and inside the file or at its end if `at` is
  pub record Reach (at p : ℕ) : Type 0 where
    pub from : at ≤ p
    pub inside : at ≤ word_count file → p ≤ word_count file

  abbrev pub YieldsBy : {A : Type 0} → ℕ → (A → ℕ → Type 0) → Reading A → Type 0
  YieldsBy at T (read a p) = Reach at p × T a p
  YieldsBy at T (fault n p) = at ≤ word_count file → FaultAt at n p

  abbrev pub PastBy : {A : Type 0} → ℕ → (A → ℕ → Type 0) → Reading A → Type 0
  PastBy at T (read a p) = (at < p) × (p ≤ word_count file) × T a p
  PastBy at T (fault n p) = at ≤ word_count file → FaultAt at n p

  pub record Yields {A : Type 0} (at : ℕ) (T : A → ℕ → Type 0) (r : Reader A) : Type 0 where
    pub yields : YieldsBy at T (r at)

  pub record Past {A : Type 0} (at : ℕ) (T : A → ℕ → Type 0) (r : Reader A) : Type 0 where
    pub past : PastBy at T (r at)

module _ {file : List ℕ} where
  pub past-yields : {A : Type 0} {at : ℕ} {T : A → ℕ → Type 0} {r : Reader A} → Past file at T r → Yields file at T r
  past-yields {A} {at} {T} {r} h = record { yields = go (r at) h.past }
    where
      go : (x : Reading A) → PastBy file at T x → YieldsBy file at T x
      go (read a p) k = (record { from = omega (arith, k.0); inside = λ _. k.1 }, k.2)
      go (fault n p) k = k

  pub yields-map : {A : Type 0} {at : ℕ} {T U : A → ℕ → Type 0} {r : Reader A} → ((a : A) (p : ℕ) → T a p → U a p) →
      Yields file at T r → Yields file at U r
  yields-map {A} {at} {T} {U} {r} f h = record { yields = go (r at) h.yields }
    where
      go : (x : Reading A) → YieldsBy file at T x → YieldsBy file at U x
      go (read a p) k = (k.0, f a p k.1)
      go (fault n p) k = k

  reach_again : {at q p : ℕ} → Reach file at q → Reach file q p → Reach file at p
  reach_again r s = record { from = omega (arith, r.from, s.from); inside = λ h. s.inside (r.inside h) }

  fault-again : {at q n p : ℕ} → Reach file at q → (q ≤ word_count file → FaultAt file q n p) → at ≤ word_count file →
      FaultAt file at n p
  fault-again r f h =
      let x = f (r.inside h) in
      record { least = x.least; most = x.most; from = omega (arith, r.from, x.from); inside = x.inside }

  pub reach_here : (at : ℕ) → Reach file at at
  reach_here at = record { from = omega arith; inside = λ k. k }

  pub start : {A : Type 0} {at : ℕ} {T : A → ℕ → Type 0} (a : A) → T a at → Yields file at T (pure a)
  start {at} a h = record { yields = (reach_here at, h) }

-- a reading after another
pub then-yields :
    (file : List ℕ) {A B : Type 0} (U : A → ℕ → Type 0) (T : B → ℕ → Type 0) (at : ℕ) (x : Reading A)
    (f : A → ℕ → Reading B) →
    YieldsBy file at U x → ((a : A) (q : ℕ) → U a q → YieldsBy file q T (f a q)) → YieldsBy file at T (on_read x f)
then-yields file {B} U T at (read a q) f h k = go (f a q) (k a q h.1)
  where
    go : (y : Reading B) → YieldsBy file q T y → YieldsBy file at T y
    go (read b p) l = (reach_again h.0 l.0, l.1)
    go (fault n p) l = fault-again h.0 l
then-yields file U T at (fault n p) f h k = h

module _ {file : List ℕ} where
  infixl 50 ◌▹◌
  pub ◌▹◌ : {A B : Type 0} {U : ℕ → A → ℕ → Type 0} {T : B → ℕ → Type 0} {r : Reader (A → B)} {t : Reader A} {at : ℕ} →
      Yields file at (λ f q. (a : A) (p : ℕ) → U q a p → T (f a) p) r → ((q : ℕ) → Yields file q (U q) t) →
      Yields file at T (r ⊛ t)
  unfolding ◌⊛◌
  ◌▹◌ {U} {T} {r} {t} {at} h k = record {
    yields =
        then-yields file _ T at (r at) _ h.yields λ f q g.
        then-yields file (U q) T q (t q) _ (k q).yields λ a p u. (reach_here p, g a p u);
  }

  -- a number of parts: W joins what U says of each
  pub several-yields :
      {A : Type 0} {U : ℕ → A → ℕ → Type 0} {r : Reader A} (W : List A → ℕ → ℕ → Type 0) → ((q : ℕ) → W [] q q) →
      ((a : A) (l : List A) (q s p : ℕ) → U q a s → W l s p → W (a ∷ l) q p) → ((q : ℕ) → Yields file q (U q) r) →
      (n at : ℕ) → Yields file at (λ l p. W l at p × (length l ≡ n)) (several n r)
  unfolding several
  several-yields W f g k zero at = record { yields = (reach_here at, (f at, refl)) }
  several-yields {U} {r} W f g k (suc n) at = record {
    yields =
        then-yields file (U at) _ at (r at) _ (k at).yields λ a q u.
        then-yields file (λ l p. W l q p × (length l ≡ n)) _ q (several n r q) _
        (several-yields {U = U} {r = r} W f g k n q).yields
        λ l p v. (reach_here p, (g a l at q p u v.0, ap suc v.1));
  }

  pub level-past : {A : Type 0} (at : ℕ) (T : A → ℕ → Type 0) → Past file at T (no_level file)
  level-past {A} at T = record { past = go (ltb at (word_count file)) }
    where
      go : (b : Bool) → PastBy file {A = A} at T (cond b (fault 4 at) (fault 3 (word_count file)))
      go true = λ h. record { least = omega arith; most = omega arith; from = omega arith; inside = h }
      go false = λ h. record { least = omega arith; most = omega arith; from = h; inside = omega arith }

  -- the parts after a word that is allowed
  allowed-past :
      {A : Type 0} (at : ℕ) (T : A → ℕ → Type 0) (o : Option (Reader A)) → at < word_count file →
      Optional (λ r. Yields file (at + 1) T r) o → PastBy file at T (allowed o at)
  allowed-past at T none h k = λ l.
      record { least = omega arith; most = omega arith; from = omega arith; inside = l }
  allowed-past {A} at T (some r) h k = go (r (at + 1)) k.there.yields
    where
      go : (x : Reading A) → YieldsBy file (at + 1) T x → PastBy file at T x
      go (read a p) y = (omega (arith, y.0.from), y.0.inside (omega arith), y.1)
      go (fault n p) y = λ l. let x = y (omega arith) in
          record { least = x.least; most = x.most; from = omega (arith, x.from); inside = x.inside }

  pub due-past :
      {A : Type 0} {T : A → ℕ → Type 0} (at : ℕ) (step : ℕ → ℕ → ℕ → Option (Reader A)) →
      ((k p : ℕ) → WordFound file at k p → Optional (λ r. Yields file (at + 1) T r) (step at k p)) →
      Past file at T (word_due file step)
  unfolding word_due
  due-past {A} {T} at step f = record { past = go (ltb at (word_count file)) refl }
    where
      go : (b : Bool) → ltb at (word_count file) ≡ b → PastBy file {A = A} at T (elim b [
        | true ↦ allowed (step at (kind_at file at) (payload_at file at)) at
        | false ↦ fault 3 (word_count file)
      ])
      go true e =
          let h = ltb-true at (word_count file) e in
          allowed-past at T (step at (kind_at file at) (payload_at file at)) h (f _ _ (found_at file at h))
      go false e = λ h. record { least = omega arith; most = omega arith; from = h; inside = omega arith }

  -- the place at hand as a part
  pub yields-here : {A : Type 0} {at : ℕ} {T : A → ℕ → Type 0} {r : Reader (ℕ → A)} →
      Yields file at (λ f q. T (f q) q) r → Yields file at T (r ⊛ here)
  unfolding ◌⊛◌
  yields-here {A} {at} {T} {r} h =
      record { yields = then-yields file _ T at (r at) _ h.yields λ f q t. (reach_here q, t) }
