-- The place past lists of numbers.
-- Assumes nothing.
--     handed_on                           a failure that `?` hands on
--     word_out, word-here, word-other     one number: past the file's end, that one, another
--     word-lost, matched-lost, all-lost   where one was missing, what follows changes nothing
--     all-out                             at or past the file's end the first is missing
--     matched-from                        where none was, the place is where what follows is asked for
--     matched-append                      one list after the other
--     words-step, words-done              the words of a list, one by one
--     range-done                          no numbers between two places
--     head-put, head-word                 a word or what is put for it
use mathlib.Core.Path.{◌≡◌, refl, sym, ap, ◌∙◌}
use mathlib.Core.List.{List, [], ◌∷◌, ◌++◌}
use Prim.Native.Nat.{ℕ, ◌+◌, ◌<◌, ◌≤◌}
use borrow.Author.Tests.{eq-eqb, ne_eqb, lt-ltb, le-ltb}
use native.Mathlib.Numerals.{add-one}
use native.Mathlib.Omega.{arith}
use lib.ListN.{length, get_or, drop, drop_of_length-le}
use lib.Seq.{drop-cons}
use Rattle.std.specs.Prelude.{Result, Ok, Err, IsErrAnd}
use Rattle.matching.specs.Matching.{between, matched_word, matched, put_for}
use Rattle.matching.specs.declared.cursor.Put.{Put}
use Rattle.matching.proofs.Ranges.{between_none}

-- what `?` hands on
pub handed_on : {r : Result ℕ ℕ} {at : ℕ} → IsErrAnd r (λ d. d ≡ at) → r ≡ Err at
handed_on {r} {at} h = go r h
  where
    go : (r : Result ℕ ℕ) → IsErrAnd r (λ d. d ≡ at) → r ≡ Err at
    go (Ok a) h = absurd h
    go (Err d) h = ap Err h

module _ (file : List ℕ) where
  pub word_out : (at x : ℕ) → length file ≤ at → Err at ≡ matched_word file (Ok at) x
  unfolding matched_word
  word_out at x k = simp (le-ltb at (length file) k)

  pub word-here : (at x : ℕ) → at < length file → get_or file at 0 ≡ x → Ok (at + 1) ≡ matched_word file (Ok at) x
  unfolding matched_word
  word-here at x k n = simp (lt-ltb at (length file) k, eq-eqb (get_or file at 0) x n)

  pub word-other : (at x : ℕ) → at < length file → (get_or file at 0 ≡ x → ⊥) → Err at ≡ matched_word file (Ok at) x
  unfolding matched_word
  word-other at x k n = simp (lt-ltb at (length file) k, ne_eqb (get_or file at 0) x n)

  -- a word that is missing hands on its place
  pub word-lost : {m r : Result ℕ ℕ} {at : ℕ} (x : ℕ) → m ≡ Err at → IsErrAnd r (λ d. d ≡ at) → r ≡ matched_word file m x
  unfolding matched_word
  word-lost x e h = handed_on h ∙ ap (λ m. matched_word file m x) (sym e)

  pub matched-lost : (at : ℕ) (l : List ℕ) → Err at ≡ matched file (Err at) l
  unfolding matched matched_word
  matched-lost at [] = refl
  matched-lost at (x ∷ l) = matched-lost at l

  pub all-lost : {m r : Result ℕ ℕ} {at : ℕ} (l : List ℕ) → m ≡ Err at → IsErrAnd r (λ d. d ≡ at) → r ≡ matched file m l
  all-lost l e h = handed_on h ∙ matched-lost _ l ∙ ap (λ m. matched file m l) (sym e)

  -- at or past the file's end
  pub all-out : (l : List ℕ) (at : ℕ) → length file ≤ at → 0 < length l → Err at ≡ matched file (Ok at) l
  unfolding matched
  all-out [] at h k = absurd (omega arith)
  all-out (x ∷ l) at h k = matched-lost at l ∙ ap (λ m. matched file m l) (word_out at x h)

  -- from where all stood so far
  pub matched-from : {m : Result ℕ ℕ} {at : ℕ} (l : List ℕ) → m ≡ Ok at → matched file (Ok at) l ≡ matched file m l
  matched-from l e = ap (λ m. matched file m l) (sym e)

  pub matched-append : (m : Result ℕ ℕ) (k l : List ℕ) → matched file m (k ++ l) ≡ matched file (matched file m k) l
  unfolding matched
  matched-append m [] l = refl
  matched-append m (x ∷ k) l = matched-append (matched_word file m x) k l

  pub words-step : (words : List ℕ) (i : ℕ) (m n : Result ℕ ℕ) → i < length words → n ≡ matched_word file m (get_or words i 0) →
      matched file n (drop (i + 1) words) ≡ matched file m (drop i words)
  unfolding matched
  words-step words i m n h e =
      ap (λ c. matched file c (drop (i + 1) words)) e
      ∙ sym (ap (matched file m) (drop-cons words i 0 h ∙ ap (λ j. get_or words i 0 ∷ drop j words) (sym (add-one i))))

  pub words-done : (words : List ℕ) (i : ℕ) (m : Result ℕ ℕ) → length words ≤ i → matched file m (drop i words) ≡ m
  unfolding matched
  words-done words i m h = ap (matched file m) (drop_of_length-le words h)

  pub range-done : (m : Result ℕ ℕ) (i to : ℕ) → to ≤ i → matched file m (between file i to) ≡ m
  unfolding matched
  range-done m i to h = rw between_none

  pub head-put : (m : Result ℕ ℕ) (x : ℕ) (put : Put) → x ≡ put.word →
      matched file m (between file put.from put.to) ≡ matched file m (put_for file put x)
  unfolding put_for
  head-put m x put h = simp (eq-eqb x put.word h)

  pub head-word : (m : Result ℕ ℕ) (x : ℕ) (put : Put) → (x ≡ put.word → ⊥) →
      matched_word file m x ≡ matched file m (put_for file put x)
  unfolding matched put_for
  head-word m x put h = simp (ne_eqb x put.word h)
