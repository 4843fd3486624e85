-- Words loaded from bytes.
-- Assumes nothing.
--     words-length, words-at       how many words bytes make; the word at a place
--     front, front-more            the first words stand in front; one more
--     lesser-min, lesser-first     the lesser of two is the library's `min`; it is the first where that is not over the other
--     loaded-words                 what a caller has who lends room enough
use mathlib.Core.Path.{◌≡◌, refl, sym, ◌∙◌, ap}
use mathlib.Core.Bool.{Bool, true, false, cond}
use mathlib.Core.List.{List, [], ◌∷◌, ◌++◌}
use Prim.Native.Nat.{ℕ, zero, suc, min, ◌+◌, ◌*◌, ◌/◌, ◌<◌, ◌≤◌}
use native.Mathlib.Omega.{arith}
use borrow.Author.Tests.{le-leb, leb-true, leb-false}
use native.Mathlib.Numerals.{add-one}
use lib.ListN.{length, get_or, take, drop, set}
use lib.Seq.{take_all, take_at, set_at, take-suc, drop-cons, append_snoc, length-take-le}
use lib.Dec.{leb}
use Rattle.std.proofs.Math.Nat.{min-eq_left, min-eq_right}
use Rattle.layout.specs.Bytes.{words_of}
use Rattle.words.specs.Load.{word_at, lesser, Loaded}

pub words-length : (l : List ℕ) → length (words_of l) ≡ length l / 4
unfolding words_of
words-length [] = refl
words-length (a ∷ []) = refl
words-length (a ∷ (b ∷ [])) = refl
words-length (a ∷ (b ∷ (c ∷ []))) = refl
words-length (a ∷ (b ∷ (c ∷ (d ∷ l)))) = let h = words-length l in omega arith

-- four bytes on is one place on
pub words-at : (l : List ℕ) (i : ℕ) → 4 * i + 3 < length l → get_or (words_of l) i 0 ≡ word_at l i
unfolding words_of
words-at [] i h = absurd (omega arith)
words-at (a ∷ []) i h = absurd (omega arith)
words-at (a ∷ (b ∷ [])) i h = absurd (omega arith)
words-at (a ∷ (b ∷ (c ∷ []))) i h = absurd (omega arith)
words-at (a ∷ (b ∷ (c ∷ (d ∷ l)))) zero h = refl
words-at (a ∷ (b ∷ (c ∷ (d ∷ l)))) (suc i) h =
    let e : (j : ℕ) → 4 * suc i + j ≡ suc (suc (suc (suc (4 * i + j)))) = λ j. omega arith in
    let f : 4 * suc i ≡ suc (suc (suc (suc (4 * i)))) = omega arith in
    words-at l i (omega arith) ∙ rw (e 1, e 2, e 3, f)

module _ (bytes before : List ℕ) where
  -- the first i words of the bytes stand in front
  abbrev pub front : ℕ → List ℕ
  front i = take i (words_of bytes) ++ drop i before

  pub front-more : (i : ℕ) → 4 * i + 3 < length bytes → i < length before →
      set (front i) i (word_at bytes i) ≡ front (i + 1)
  front-more i h k =
      let s = words_of bytes in
      let l : i < length s = rw (words-length bytes) (omega arith) in
      rw (← words-at bytes i h, add-one i) (
      ap (λ (r : List ℕ). set (take i s ++ r) i (get_or s i 0)) (drop-cons before i 0 k)
      ∙ set_at (take i s) (get_or before i 0) (drop (suc i) before) (get_or s i 0) i (length-take-le i s (omega arith))
      ∙ sym (append_snoc (take i s) (get_or s i 0) (drop (suc i) before))
      ∙ ap (λ (r : List ℕ). r ++ drop (suc i) before) (sym (take-suc s i 0 l)))

pub lesser-min : (a b : ℕ) → min a b ≡ lesser a b
unfolding lesser
lesser-min a b = go (leb a b) refl
  where
    go : (t : Bool) → leb a b ≡ t → min a b ≡ cond t a b
    go true e = min-eq_left (leb-true a b e)
    go false e = min-eq_right (let h = leb-false a b e in omega arith)

pub lesser-first : (a b n : ℕ) → n ≡ lesser a b → a ≤ b → n ≡ a
unfolding lesser
lesser-first a b n e h = e ∙ simp (le-leb a b h)

pub loaded-words :
    {bytes before after : List ℕ} {n : ℕ} → Loaded bytes before after n → length bytes / 4 ≤ length before →
    (n ≡ length bytes / 4) × (take n after ≡ words_of bytes)
loaded-words {bytes} {before} {after} {n} h k =
    let e : n ≡ length bytes / 4 = lesser-first _ _ _ h.count k in
    let l : length (words_of bytes) ≤ n = rw (words-length bytes) (omega arith) in
    let w : take n (words_of bytes) ≡ words_of bytes = take_all n (words_of bytes) l in
    (e, rw (h.content, w) (take_at (words_of bytes) (drop n before) n (words-length bytes ∙ sym e)))
