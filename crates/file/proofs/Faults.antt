-- Refusals 1 to 7, 16 and 19 are at a place inside the file or at its end (document 01, "Judging order").
-- Assumes nothing.
--     FaultBy                                 a refusal's number, up to 19, and a place among so many words or at their end
--     words-fault, bytes-fault, file-fault    of words; of bytes; of bytes under settings
--     few_words                               a file whose byte count is good has at most 8,192 words
use mathlib.Core.Path.{◌≡◌, refl, sym, subst}
use mathlib.Core.Bool.{Bool, true, false}
use mathlib.Core.List.{List, [], ◌∷◌}
use mathlib.Core.Option.{Option, none, some}
use Prim.Native.Nat.{ℕ, zero, suc, ◌+◌, ◌*◌, ◌<◌, ◌≤◌}
use native.Mathlib.Omega.{arith}
use borrow.Author.Tests.{eqb-true, ltb-true}
use lib.Dec.{eqb, ltb}
use Rattle.rules.specs.Context.{Limits, within_ranges, alone}
use Rattle.layout.specs.Bytes.{words_of, word_count, number_at, payloads}
use Rattle.layout.specs.Reading.{Reading, read, fault, on_read, first_place}
use Rattle.layout.specs.Program.{after_all}
use Rattle.layout.specs.Call.{wrong_call}
use Rattle.layout.specs.For.{unsteady_at}
use Rattle.layout.specs.File.{File, parts, steady_file, calls_tested, finish, words_read, bad_length, bytes_read, file_of}
use Rattle.layout.proofs.WholeFile.{parts-fault}
use Rattle.words.proofs.Loading.{words-length}
use Rattle.words.proofs.Lengths.{bad-file, good-file, good_length}

-- of a refusal: its number, and a place among n words or at their end
abbrev pub FaultBy : ℕ → Reading File → Type 0
FaultBy n (read f p) = Unit {0}
FaultBy n (fault k p) = (k ≤ 19) × (p ≤ n)

-- n places from `at` on
first-inside : (t : ℕ → Bool) (n at p : ℕ) → first_place t n at ≡ some p → p < at + n
unfolding first_place
first-inside t zero at p e = absurd (let z : ◌≡◌ {A = ℕ} 0 1 = cc in omega arith)
first-inside t (suc n) at p e = go (t at) e (first-inside t n (suc at) p)
  where
    go : (b : Bool) → elim b [ true ↦ some at | false ↦ first_place t n (suc at) ] ≡ some p →
        (first_place t n (suc at) ≡ some p → p < suc at + n) → p < at + suc n
    go true e h = let x : at ≡ p = cc in omega arith
    go false e h = let x = h e in omega arith

module _ (limits : Limits) (w : List ℕ) where
  steady-fault : (f : File) (p : ℕ) → FaultBy (word_count w) (steady_file limits w f p)
  unfolding steady_file
  steady-fault f p = go (first_place (unsteady_at (after_all (alone limits) f.procedures) w) (word_count w) 0) refl
    where
      go : (o : Option ℕ) → first_place (unsteady_at (after_all (alone limits) f.procedures) w) (word_count w) 0 ≡ o →
          FaultBy (word_count w) (elim o [ none ↦ read f p | some at ↦ fault 7 at ])
      go none e = tt
      go (some at) e = let h = first-inside _ (word_count w) 0 at e in (omega arith, omega arith)

  called-fault : (f : File) (p : ℕ) → FaultBy (word_count w) (calls_tested limits w f p)
  unfolding calls_tested
  called-fault f p = go (first_place (wrong_call w f.procedures) (word_count w) 0) refl
    where
      go : (o : Option ℕ) → first_place (wrong_call w f.procedures) (word_count w) 0 ≡ o →
          FaultBy (word_count w) (elim o [ none ↦ steady_file limits w f p | some at ↦ fault 16 at ])
      go none e = steady-fault f p
      go (some at) e = let h = first-inside _ (word_count w) 0 at e in (omega arith, omega arith)

  finish-fault : (f : File) (p : ℕ) → FaultBy (word_count w) (finish limits w f p)
  unfolding finish
  finish-fault f p = go (ltb p (word_count w)) refl
    where
      go : (t : Bool) → ltb p (word_count w) ≡ t →
          FaultBy (word_count w) (elim t [ true ↦ fault 6 p | false ↦ calls_tested limits w f p ])
      go true t = let h = ltb-true p (word_count w) t in (omega arith, omega arith)
      go false t = called-fault f p

  -- 63:n is a word
  some_word : (l : List ℕ) → number_at l 0 ≡ 63 * payloads + word_count l → 1 ≤ word_count l
  some_word [] e = absurd (omega arith)
  some_word (x ∷ l) e = omega arith

  pub words-fault : FaultBy (word_count w) (words_read limits w)
  unfolding words_read
  words-fault = go (eqb (number_at w 0) (63 * payloads + word_count w)) refl
    where
      all : (x : Reading File) → parts limits w ≡ x → 1 ≤ word_count w →
          FaultBy (word_count w) (on_read x (finish limits w))
      all (read f p) e h = finish-fault f p
      all (fault n p) e h = let x = parts-fault limits w n p e h in (omega (arith, x.most), x.inside)

      go : (t : Bool) → eqb (number_at w 0) (63 * payloads + word_count w) ≡ t →
          FaultBy (word_count w) (elim t [ true ↦ on_read (parts limits w) (finish limits w) | false ↦ fault 2 0 ])
      go true t = all (parts limits w) refl (some_word w (eqb-true _ _ t))
      go false t = (omega arith, omega arith)

small-fault : (m n : ℕ) (x : Reading File) → m ≤ n → FaultBy m x → FaultBy n x
small-fault m n (read f p) h k = tt
small-fault m n (fault i p) h k = (k.0, omega (arith, k.1))

pub few_words : (bytes : List ℕ) → bad_length bytes ≡ false → word_count (words_of bytes) ≤ 8192
few_words bytes h =
    let g = good_length bytes h in
    let l = words-length bytes in
    omega arith

module _ (limits : Limits) (bytes : List ℕ) where
  pub bytes-fault : FaultBy 8192 (bytes_read limits bytes)
  bytes-fault = go (bad_length bytes) refl
    where
      go : (t : Bool) → bad_length bytes ≡ t → FaultBy 8192 (bytes_read limits bytes)
      go true t =
          subst (λ (x : Reading File). FaultBy 8192 x) (sym (bad-file limits bytes t)) (omega arith, omega arith)
      go false t =
          subst (λ (x : Reading File). FaultBy 8192 x) (sym (good-file limits bytes t))
          (small-fault (word_count (words_of bytes)) 8192 (words_read limits (words_of bytes)) (few_words bytes t)
          (words-fault limits (words_of bytes)))

  pub file-fault : FaultBy 8192 (file_of limits bytes)
  unfolding file_of
  file-fault = go (within_ranges limits)
    where
      go : (t : Bool) → FaultBy 8192 (elim t [ true ↦ bytes_read limits bytes | false ↦ fault 19 0 ])
      go true = bytes-fault
      go false = (omega arith, omega arith)
