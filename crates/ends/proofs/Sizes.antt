-- The sizes of what starts at each word.
-- Assumes nothing.
--     sizes-length, sizes-at     as many as the words; the size at a place, by the sizes after it
--     sizes-inside               no size goes past the last word
--     follow-past                following ends is going past parts by their sizes
--     follow-end                 past the parts of a word is its end, and no further than the last word
use mathlib.Core.Path.{◌≡◌, refl, sym, ap, ◌∙◌}
use mathlib.Core.Logic.{◌⊎◌, inl, inr}
use mathlib.Core.List.{List, [], ◌∷◌}
use Prim.Native.Nat.{ℕ, zero, suc, ◌+◌, ◌-◌, ◌/◌, ◌%◌, ◌<◌, ◌≤◌}
use native.Mathlib.Omega.{arith}
use native.Mathlib.Decide.{dec_lt}
use native.Mathlib.Numerals.{add-one}
use borrow.Author.Tests.{lt-ltb, le-ltb}
use lib.ListN.{length, get_or, drop, length-drop, drop_of_length-le}
use lib.Seq.{drop-cons, drop-drop}
use Rattle.layout.specs.Bytes.{kind_at, payload_at, payloads}
use Rattle.layout.specs.Nodes.{count_of}
use Rattle.ends.specs.Sizes.{past, sizes, follow}

pub lt_or_le : (m n : ℕ) → (m < n) ⊎ (n ≤ m)
lt_or_le m n = elim (dec_lt m n) [ yes h ↦ inl h | no h ↦ inr (omega arith) ]

pub sizes-length : (file : List ℕ) → length (sizes file) ≡ length file
unfolding sizes
sizes-length [] = refl
sizes-length (x ∷ l) = ap suc (sizes-length l)

pub sizes-at : (file : List ℕ) (at : ℕ) → at < length file →
    get_or (sizes file) at 0 ≡ suc (past (count_of (kind_at file at) (payload_at file at)) (drop (suc at) (sizes file)))
unfolding sizes
sizes-at [] at h = absurd (omega arith)
sizes-at (x ∷ l) zero h = refl
sizes-at (x ∷ l) (suc at) h = sizes-at l at (omega arith)

-- no part goes past the end
abbrev SizesInside : List ℕ → Type 0
SizesInside [] = Unit {0}
SizesInside (s ∷ m) = (s ≤ suc (length m)) × SizesInside m

inside-drop : (n : ℕ) (m : List ℕ) → SizesInside m → SizesInside (drop n m)
inside-drop zero m h = h
inside-drop (suc n) [] h = h
inside-drop (suc n) (s ∷ m) h = inside-drop n m h.1

past-inside : (n : ℕ) (m : List ℕ) → SizesInside m → past n m ≤ length m
unfolding past
past-inside zero m h = omega arith
past-inside (suc n) [] h = omega arith
past-inside (suc n) (s ∷ m) h =
    let r = past-inside n (drop s (s ∷ m)) (inside-drop s (s ∷ m) h) in
    omega (arith, h.0, length-drop s (s ∷ m))

sizes-within : (file : List ℕ) → SizesInside (sizes file)
unfolding sizes
sizes-within [] = tt
sizes-within (x ∷ l) =
    let h = sizes-within l in
    let r = past-inside (count_of (x / payloads) (x % payloads)) (sizes l) h in
    (omega arith, h)

inside-at : (m : List ℕ) (at : ℕ) → SizesInside m → at < length m → at + get_or m at 0 ≤ length m
inside-at [] at h l = absurd (omega arith)
inside-at (s ∷ m) zero h l = omega (arith, h.0)
inside-at (s ∷ m) (suc at) h l = let r = inside-at m at h.1 (omega arith) in omega arith

pub sizes-inside : (file : List ℕ) (at : ℕ) → at < length file → at + get_or (sizes file) at 0 ≤ length file
sizes-inside file at h =
    let e = sizes-length file in
    let r = inside-at (sizes file) at (sizes-within file) (omega arith) in
    omega arith

-- the ends from a place on are those that the sizes make
abbrev pub Ended : List ℕ → List ℕ → ℕ → Type 0
Ended file ends from = (at : ℕ) → from ≤ at → at < length file → get_or ends at 0 ≡ at + get_or (sizes file) at 0

-- past one part and more
pub past_more : (m : List ℕ) (at n : ℕ) → at < length m →
    past (suc n) (drop at m) ≡ get_or m at 0 + past n (drop (at + get_or m at 0) m)
unfolding past
past_more m at n h =
    rw (drop-cons m at 0 h)
    (ap (λ l. get_or m at 0 + past n (drop (get_or m at 0) l)) (sym (drop-cons m at 0 h))
    ∙ ap (λ l. get_or m at 0 + past n l) (drop-drop (get_or m at 0) at m))

pub past-none : (m : List ℕ) (at n : ℕ) → length m ≤ at → past n (drop at m) ≡ 0
unfolding past
past-none m at zero h = refl
past-none m at (suc n) h = rw (drop_of_length-le m h) refl

-- the end of following, and a turn of it
pub follow-none : (ends : List ℕ) (n k at : ℕ) → k ≤ 0 → follow ends n k at ≡ at
unfolding follow
follow-none ends n zero at h = refl
follow-none ends n (suc k) at h = absurd (omega arith)

pub follow-stop : (ends : List ℕ) (n k at : ℕ) → n ≤ at → follow ends n k at ≡ at
unfolding follow
follow-stop ends n zero at h = refl
follow-stop ends n (suc k) at h = rw (le-ltb at n h, follow) refl

follow-next : (ends : List ℕ) (n k at : ℕ) → at < n → follow ends n (suc k) at ≡ follow ends n k (get_or ends at 0)
unfolding follow
follow-next ends n k at h = rw (lt-ltb at n h, follow) refl

pub follow-on : (ends : List ℕ) (n k i at : ℕ) → i < k → at < n →
    follow ends n (k - i) at ≡ follow ends n (k - (i + 1)) (get_or ends at 0)
follow-on ends n k i at l h =
    let e : k - i ≡ suc (k - (i + 1)) = omega arith in
    ap (λ j. follow ends n j at) e ∙ follow-next ends n (k - (i + 1)) at h

module _ (file ends : List ℕ) (from : ℕ) (h : Ended file ends from) where
  pub follow-past : (k at : ℕ) → from ≤ at →
      follow ends (length file) k at ≡ at + past k (drop at (sizes file))
  unfolding follow past
  follow-past zero at l = omega arith
  follow-past (suc k) at l = elim (lt_or_le at (length file)) [
    | inl i ↦
        let e = h at l i in
        let r = follow-past k (get_or ends at 0) (omega arith) in
        let s = past_more (sizes file) at k (omega (arith, sizes-length file)) in
        follow-next ends (length file) k at i ∙ r ∙ rw e (sym (ap (λ i. at + i) s ∙ omega arith))
    | inr o ↦
        let e = past-none (sizes file) at (suc k) (omega (arith, sizes-length file)) in
        let r = follow-stop ends (length file) (suc k) at o in omega arith
  ]

  pub follow-end : (k n : ℕ) → from ≤ k + 1 → k < length file → n ≡ count_of (kind_at file k) (payload_at file k) →
      (follow ends (length file) n (k + 1) ≡ k + get_or (sizes file) k 0) × (follow ends (length file) n (k + 1) ≤ length file)
  follow-end k n l i e =
      let f : follow ends (length file) n (k + 1) ≡ k + get_or (sizes file) k 0 =
      follow-past n (k + 1) l ∙ rw add-one turns in
      (f, omega (arith, f, sizes-inside file k i))
    where
      turns : suc k + past n (drop (suc k) (sizes file)) ≡ k + get_or (sizes file) k 0
      turns = rw e (omega (arith, sizes-at file k i))
