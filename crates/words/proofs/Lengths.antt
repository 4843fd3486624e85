-- Refusal 1, and the words of a file that it lets pass.
-- Assumes nothing.
--     bad-file, good-file      a file by its byte count
--     good_length              a good byte count is at most 32,768
--     AllLoaded, all-loaded    all words of such a file are loaded where there is room
use mathlib.Core.Path.{◌≡◌, refl, sym, ◌∙◌}
use mathlib.Core.Bool.{Bool, true, false, not, ◌||◌}
use mathlib.Core.List.{List}
use Prim.Native.Nat.{ℕ, ◌*◌, ◌%◌, ◌≤◌}
use native.Mathlib.Omega.{arith}
use borrow.Author.Tests.{ltb-false}
use lib.Dec.{eqb, ltb}
use lib.ListN.{length, take, length-take}
use Rattle.rules.specs.Context.{Limits}
use Rattle.layout.specs.Bytes.{words_of}
use Rattle.layout.specs.Reading.{fault}
use Rattle.layout.specs.File.{bad_length, bytes_read, words_read}
use Rattle.words.specs.Load.{Loaded}
use Rattle.words.proofs.Loading.{words-length, loaded-words}

module _ (limits : Limits) (bytes : List ℕ) where
  pub bad-file : bad_length bytes ≡ true → bytes_read limits bytes ≡ fault 1 0
  unfolding bytes_read
  bad-file h = rw (h, bytes_read) refl

  pub good-file : bad_length bytes ≡ false → bytes_read limits bytes ≡ words_read limits (words_of bytes)
  unfolding bytes_read
  good-file h = rw (h, bytes_read) refl

pub good_length : (bytes : List ℕ) → bad_length bytes ≡ false → length bytes ≤ 32768
good_length bytes h = go (eqb (length bytes) 0) (ltb 32768 (length bytes)) refl h
  where
    go : (a b : Bool) → ltb 32768 (length bytes) ≡ b → a || (b || not (eqb (length bytes % 4) 0)) ≡ false →
        length bytes ≤ 32768
    go true b e k = absurd (let z : true ≡ false = k in let y : ◌≡◌ {A = ℕ} 0 1 = cc in omega arith)
    go false true e k = absurd (let z : true ≡ false = k in let y : ◌≡◌ {A = ℕ} 0 1 = cc in omega arith)
    go false false e k = let l = ltb-false 32768 (length bytes) e in omega arith

-- the words stand in front
pub record AllLoaded (bytes after : List ℕ) (n : ℕ) : Type 0 where
  pub words : take n after ≡ words_of bytes
  pub count : n ≡ length (take n after)
  pub inside : n ≤ length after
  pub size : length (take n after) ≤ 8192
  pub few : 4 * n ≤ length bytes

pub all-loaded : {bytes before after : List ℕ} {n : ℕ} → bad_length bytes ≡ false → Loaded bytes before after n →
    length bytes ≤ 4 * length before → AllLoaded bytes after n
all-loaded {bytes} {before} {after} {n} h l e =
    let g = good_length bytes h in
    let k = loaded-words l (omega arith) in
    let m : length (take n after) ≡ n = rw k.1 (words-length bytes ∙ sym k.0) in
    let i = length-take n after in
    record {
      words = k.1;
      count = sym m;
      inside = omega arith;
      size = omega (arith, k.0);
      few = omega (arith, k.0);
    }
