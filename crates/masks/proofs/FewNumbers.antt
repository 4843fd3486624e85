-- Refusal 17, by what the code finds.
-- Assumes nothing.
--     four_bytes, good-whole                   a good byte count is 4 or more; it is a multiple of 4
--     read-good, read-enough                   the byte count of a file that was read is good; enough numbers are as many as words
--     bad-many, uncounted-many, counted-few    the byte count is bad; word 0 is not 63:n; the count of numbers decides
use mathlib.Core.Path.{◌≡◌, refl, sym, ap, ◌∙◌}
use mathlib.Core.Bool.{Bool, true, false, not, ◌&&◌, ◌||◌}
use mathlib.Core.List.{List}
use Prim.Native.Nat.{ℕ, ◌+◌, ◌*◌, ◌/◌, ◌%◌, ◌<◌, ◌≤◌}
use native.Mathlib.Omega.{arith}
use borrow.Author.Tests.{eq-eqb, ne_eqb, eqb-true, eqb-false, ltb-false}
use lib.Dec.{eqb, ltb}
use lib.ListN.{length}
use Rattle.laws.proofs.Bools.{clash}
use Rattle.layout.specs.Bytes.{words_of, word_count, number_at, payloads}
use Rattle.rules.specs.Context.{Limits}
use Rattle.layout.specs.Reading.{read, fault, on_read}
use Rattle.layout.specs.File.{File, parts, finish, bad_length, words_read, bytes_read}
use Rattle.words.specs.Load.{word_at}
use Rattle.words.proofs.Loading.{words-length, words-at}
use Rattle.words.proofs.Lengths.{bad-file, good-file}
use Rattle.masks.specs.WithMasks.{few_numbers}

pub bad-many : (bytes : List ℕ) (n : ℕ) → bad_length bytes ≡ true → false ≡ few_numbers bytes n
unfolding few_numbers
bad-many bytes n h = rw h refl

module _ (bytes : List ℕ) (good : bad_length bytes ≡ false) where
  -- a good byte count is a multiple of 4, and not 0
  four_and_whole : (3 < length bytes) × (length bytes % 4 ≡ 0)
  four_and_whole = go (eqb (length bytes) 0) (ltb 32768 (length bytes)) (eqb (length bytes % 4) 0) refl refl good
    where
      go : (a b d : Bool) → eqb (length bytes) 0 ≡ a → eqb (length bytes % 4) 0 ≡ d → a || (b || not d) ≡ false →
          (3 < length bytes) × (length bytes % 4 ≡ 0)
      go true b d e k h = clash refl h
      go false true d e k h = clash refl h
      go false false false e k h = clash refl h
      go false false true e k h =
          let whole = eqb-true (length bytes % 4) 0 k in
          (omega (arith, eqb-false (length bytes) 0 e, whole), whole)

  pub four_bytes : 3 < length bytes
  four_bytes = four_and_whole.0

  pub good-whole : length bytes % 4 ≡ 0
  good-whole = four_and_whole.1

  first_word : {x : ℕ} → x ≡ word_at bytes 0 → x ≡ number_at (words_of bytes) 0
  first_word e = e ∙ sym (words-at bytes 0 (omega (arith, four_bytes)))

  pub uncounted-many : (n : ℕ) {x : ℕ} → x ≡ word_at bytes 0 → (x ≡ 63 * payloads + length bytes / 4 → ⊥) → false ≡ few_numbers bytes n
  unfolding few_numbers
  uncounted-many n {x} e h =
      rw good
      (sym (ap (λ b. b && ltb n (length (words_of bytes)))
      (ne_eqb (number_at (words_of bytes) 0) (63 * payloads + length (words_of bytes))
      (λ k. h (first_word e ∙ k ∙ ap (λ i. 63 * payloads + i) (words-length bytes))))))

  pub counted-few : (n : ℕ) {x : ℕ} → x ≡ word_at bytes 0 → x ≡ 63 * payloads + length bytes / 4 →
      ltb n (length bytes / 4) ≡ few_numbers bytes n
  unfolding few_numbers
  counted-few n {x} e h =
      rw good
      (sym (ap (λ b. b && ltb n (length (words_of bytes)))
      (eq-eqb (number_at (words_of bytes) 0) (63 * payloads + length (words_of bytes))
      (sym (first_word e) ∙ h ∙ ap (λ i. 63 * payloads + i) (sym (words-length bytes))))
      ∙ ap (ltb n) (words-length bytes)))

-- ---- a file that was read
no-file : {A : Type 0} {n p q : ℕ} {f : File} → fault n p ≡ read f q → A
no-file e = absurd (let z : ◌≡◌ {A = ℕ} 0 1 = cc in omega arith)

module _ (limits : Limits) (bytes : List ℕ) {f : File} {p : ℕ} (e : bytes_read limits bytes ≡ read f p) where
  pub read-good : bad_length bytes ≡ false
  read-good = go (bad_length bytes) refl
    where
      go : (b : Bool) → bad_length bytes ≡ b → bad_length bytes ≡ false
      go false h = h
      go true h = no-file (sym (bad-file limits bytes h) ∙ e)

  counted : eqb (number_at (words_of bytes) 0) (63 * payloads + word_count (words_of bytes)) ≡ true
  unfolding words_read
  counted = go (eqb (number_at (words_of bytes) 0) (63 * payloads + word_count (words_of bytes))) refl (sym (good-file limits bytes read-good) ∙ e)
    where
      go : (b : Bool) → eqb (number_at (words_of bytes) 0) (63 * payloads + word_count (words_of bytes)) ≡ b →
          elim b [ true ↦ on_read (parts limits (words_of bytes)) (finish limits (words_of bytes)) | false ↦ fault 2 0 ] ≡ read f p →
          eqb (number_at (words_of bytes) 0) (63 * payloads + word_count (words_of bytes)) ≡ true
      go true h k = h
      go false h k = no-file k

  pub read-enough : (n : ℕ) → few_numbers bytes n ≡ false → word_count (words_of bytes) ≤ n
  unfolding few_numbers
  read-enough n h =
      let k : ltb n (word_count (words_of bytes)) ≡ false =
      sym (ap (λ b. not b && (eqb (number_at (words_of bytes) 0) (63 * payloads + word_count (words_of bytes)) && ltb n (word_count (words_of bytes)))) read-good
      ∙ ap (λ b. b && ltb n (word_count (words_of bytes))) counted) ∙ h in
      omega (arith, ltb-false n (word_count (words_of bytes)) k)
