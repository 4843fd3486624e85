-- Numbers in the place of as many.
-- Assumes nothing.
--     Copying            so many numbers are copied
--     copying-none, copying-more, copying-length, copying-all
--                        before the first turn; after a turn; the length; after the last
--     spliced-length, spliced-before, spliced-in, spliced-after
--                        its length, and its numbers by their place
--     same_word          the word at a place, by the bytes there
--     spliced-words      the words of spliced bytes are the words spliced
--     loaded_at          words loaded from a place on
--     front-spliced      the front of a spliced list
use mathlib.Core.Path.{◌≡◌, sym, ap, ap₂, ◌∙◌}
use mathlib.Core.List.{List, [], ◌++◌, append_assoc, append-nil}
use mathlib.Core.Logic.{inl, inr}
use Prim.Native.Nat.{ℕ, ◌+◌, ◌*◌, ◌-◌, ◌/◌, ◌%◌, ◌<◌, ◌≤◌}
use native.Mathlib.Omega.{arith}
use native.Mathlib.Numerals.{add-one}
use lib.ListN.{length, get_or, take, drop, set, length-append, length-drop, drop_of_length-le, get_or-append}
use lib.Seq.{ext_get_or, get_or-append-add, get_or-take, get_or-drop, length-take-le, take-length, take_all, drop-drop, paste, paste-zero, paste-suc, length-paste}
use Rattle.layout.specs.Bytes.{words_of}
use borrow.Rule.Slice.PartMut.{mid_of, post_of, put_mid}
use Rattle.words.specs.Load.{word_at, Loaded}
use Rattle.words.proofs.Loading.{words-length, words-at, lesser-first}
use Rattle.ends.proofs.Sizes.{lt_or_le}
use Rattle.splice.specs.Splice.{spliced}

pub record Copying (m l : List ℕ) (at : ℕ) (to : List ℕ) (i : ℕ) : Type 0 where
  pub list : to ≡ paste l at m i
  pub inside : i ≤ length m

module _ {m l : List ℕ} {at : ℕ} (room : at + length m ≤ length l) where
  pub copying-none : Copying m l at l 0
  copying-none = record { list = paste-zero l at m; inside = omega arith }

  pub copying-length : {to : List ℕ} {i : ℕ} → Copying m l at to i → length to ≡ length l
  copying-length {i = i} c = ap length c.list ∙ length-paste l at m i (omega (arith, c.inside)) c.inside

  pub copying-more : {to : List ℕ} {i : ℕ} → Copying m l at to i → i < length m → Copying m l at (set to (at + i) (get_or m i 0)) (i + 1)
  copying-more {i = i} c h = record {
    list =
        ap (λ k. set k (at + i) (get_or m i 0)) c.list ∙ paste-suc l at m i 0 (omega arith) h
        ∙ ap (paste l at m) (sym (add-one i));
    inside = omega arith;
  }

  pub copying-all : {to : List ℕ} {i : ℕ} → Copying m l at to i → length m ≤ i → to ≡ spliced l at m
  copying-all {i = i} c h =
      let e : i ≡ length m = omega (arith, c.inside) in
      c.list ∙ ap (λ k. take at l ++ take k m ++ drop (at + k) l) e
      ∙ ap (λ k. take at l ++ k ++ drop (at + length m) l) (take-length m)
      ∙ append_assoc (take at l) m (drop (at + length m) l)

module _ (l : List ℕ) (at : ℕ) (m : List ℕ) (room : at + length m ≤ length l) where
  front : length (take at l) ≡ at
  front = length-take-le at l (omega arith)

  pub spliced-length : length (spliced l at m) ≡ length l
  spliced-length =
      length-append (take at l) (m ++ drop (at + length m) l)
      ∙ ap₂ (λ a b. a + b) front (length-append m (drop (at + length m) l) ∙ ap (λ k. length m + k) (length-drop (at + length m) l))
      ∙ omega arith

  pub spliced-before : (i : ℕ) → i < at → get_or (spliced l at m) i 0 ≡ get_or l i 0
  spliced-before i h =
      get_or-append (take at l) (m ++ drop (at + length m) l) 0 i (omega (arith, front)) ∙ get_or-take at l i 0 h

  -- past the front
  behind : (i : ℕ) → get_or (spliced l at m) (at + i) 0 ≡ get_or (m ++ drop (at + length m) l) i 0
  behind i =
      ap (λ k. get_or (spliced l at m) (k + i) 0) (sym front) ∙ get_or-append-add (take at l) (m ++ drop (at + length m) l) i 0

  pub spliced-in : (i : ℕ) → i < length m → get_or (spliced l at m) (at + i) 0 ≡ get_or m i 0
  spliced-in i h = behind i ∙ get_or-append m (drop (at + length m) l) 0 i h

  pub spliced-after : (i : ℕ) → at + length m ≤ i → get_or (spliced l at m) i 0 ≡ get_or l i 0
  spliced-after i h =
      let e : at + (length m + (i - (at + length m))) ≡ i = omega arith in
      let f : at + length m + (i - (at + length m)) ≡ i = omega arith in
      ap (λ k. get_or (spliced l at m) k 0) (sym e) ∙ behind (length m + (i - (at + length m)))
      ∙ get_or-append-add m (drop (at + length m) l) (i - (at + length m)) 0
      ∙ get_or-drop (at + length m) l (i - (at + length m)) 0 ∙ ap (λ k. get_or l k 0) f

-- ---- the words of spliced bytes
-- the word at a place, by the bytes there
pub same_word : (l m : List ℕ) (i j : ℕ) → ((k : ℕ) → k < 4 → get_or l (4 * i + k) 0 ≡ get_or m (4 * j + k) 0) →
    word_at l i ≡ word_at m j
same_word l m i j h =
    let a : get_or l (4 * i) 0 ≡ get_or m (4 * j) 0 = ap (λ k. get_or l k 0) (start i) ∙ h 0 (omega arith) ∙ ap (λ k. get_or m k 0) (sym (start j)) in
    ap₂ (λ x y. x + 16777216 * y)
    (ap₂ (λ x y. x + 65536 * y) (ap₂ (λ x y. x + 256 * y) a (h 1 (omega arith))) (h 2 (omega arith))) (h 3 (omega arith))
  where
    start : (i : ℕ) → 4 * i ≡ 4 * i + 0
    start i = omega arith

module _
    (bytes : List ℕ) (place : ℕ) (new : List ℕ) (room : 4 * place + length new ≤ length bytes) (whole : length bytes % 4 ≡ 0)
    (words : length new % 4 ≡ 0)
  where
    abbrev count : ℕ
    count = length new / 4

    words-room : place + length (words_of new) ≤ length (words_of bytes)
    words-room = omega (arith, words-length new, words-length bytes)

    bytes-length : length (spliced bytes (4 * place) new) ≡ length bytes
    bytes-length = spliced-length bytes (4 * place) new room

    -- the word at a place of the spliced bytes
    word_of : (i : ℕ) → i < length (words_of bytes) → get_or (words_of (spliced bytes (4 * place) new)) i 0 ≡ word_at (spliced bytes (4 * place) new) i
    word_of i h = words-at (spliced bytes (4 * place) new) i (omega (arith, bytes-length, words-length bytes))

    old-word : (i : ℕ) → i < length (words_of bytes) → get_or (words_of bytes) i 0 ≡ word_at bytes i
    old-word i h = words-at bytes i (omega (arith, words-length bytes))

    word-at : (i : ℕ) → i < length (words_of bytes) →
        get_or (words_of (spliced bytes (4 * place) new)) i 0 ≡ get_or (spliced (words_of bytes) place (words_of new)) i 0
    word-at i h = elim (lt_or_le i place) [
      | inl l ↦
          word_of i h
          ∙ same_word (spliced bytes (4 * place) new) bytes i i (λ k s. spliced-before bytes (4 * place) new room (4 * i + k) (omega arith))
          ∙ sym (spliced-before (words_of bytes) place (words_of new) words-room i l ∙ old-word i h)
      | inr l ↦ elim (lt_or_le i (place + count)) [
        | inl m ↦
            let j : place + (i - place) ≡ i = omega arith in
            let n : i - place < length (words_of new) = omega (arith, words-length new) in
            word_of i h
            ∙ same_word (spliced bytes (4 * place) new) new i (i - place) (λ k s.
            let e : 4 * i + k ≡ 4 * place + (4 * (i - place) + k) = omega arith in
            ap (λ q. get_or (spliced bytes (4 * place) new) q 0) e
            ∙ spliced-in bytes (4 * place) new room (4 * (i - place) + k) (omega arith))
            ∙ sym (ap (λ q. get_or (spliced (words_of bytes) place (words_of new)) q 0) (sym j)
            ∙ spliced-in (words_of bytes) place (words_of new) words-room (i - place) n
            ∙ words-at new (i - place) (omega (arith, words-length new)))
        | inr m ↦
            word_of i h
            ∙ same_word (spliced bytes (4 * place) new) bytes i i (λ k s. spliced-after bytes (4 * place) new room (4 * i + k) (omega arith))
            ∙ sym (spliced-after (words_of bytes) place (words_of new) words-room i (omega (arith, words-length new)) ∙ old-word i h)
      ]
    ]

    pub spliced-words : words_of (spliced bytes (4 * place) new) ≡ spliced (words_of bytes) place (words_of new)
    spliced-words =
        let n : length (words_of (spliced bytes (4 * place) new)) ≡ length (words_of bytes) =
        words-length (spliced bytes (4 * place) new) ∙ ap (λ k. k / 4) bytes-length ∙ sym (words-length bytes) in
        ext_get_or 0 (words_of (spliced bytes (4 * place) new)) (spliced (words_of bytes) place (words_of new))
        (n ∙ sym (spliced-length (words_of bytes) place (words_of new) words-room)) (λ i h. word-at i (omega arith))

-- ---- words loaded from a place on
-- the rest of a list is a part of it that ends with it
whole_part : (l : List ℕ) (at : ℕ) → mid_of at (length l - at) l ≡ drop at l
whole_part l at = take_all (length l - at) (drop at l) (omega (arith, length-drop at l))

none_after : (l : List ℕ) (at : ℕ) → post_of at (length l - at) l ≡ []
none_after l at = drop_of_length-le (drop at l) {i = length l - at} (omega (arith, length-drop at l))

pub loaded_at : {bytes after : List ℕ} {n : ℕ} (l : List ℕ) (at : ℕ) → Loaded bytes (mid_of at (length l - at) l) after n →
    at + length (words_of bytes) ≤ length l → put_mid at (length l - at) l after ≡ spliced l at (words_of bytes)
loaded_at {bytes} {after} {n} l at h room =
    let k = words-length bytes in
    let e : n ≡ length (words_of bytes) =
    lesser-first _ _ _ h.count (omega (arith, k, ap length (whole_part l at), length-drop at l)) ∙ sym k in
    let c : after ≡ words_of bytes ++ drop (length (words_of bytes)) (drop at l) =
    h.content ∙ ap₂ (λ i b. take i (words_of bytes) ++ drop i b) e (whole_part l at)
    ∙ ap (λ w. w ++ drop (length (words_of bytes)) (drop at l)) (take-length (words_of bytes)) in
    ap₂ (λ a b. take at l ++ (a ++ b)) c (none_after l at)
    ∙ ap (λ b. take at l ++ b) (append-nil (words_of bytes ++ drop (length (words_of bytes)) (drop at l)))
    ∙ ap (λ b. take at l ++ (words_of bytes ++ b)) (drop-drop (length (words_of bytes)) at l)

-- the front of a spliced list
pub front-spliced : (l : List ℕ) (at : ℕ) (m : List ℕ) (n : ℕ) → at + length m ≤ n → n ≤ length l →
    take n (spliced l at m) ≡ spliced (take n l) at m
front-spliced l at m n room inside =
    let a = spliced-length l at m (omega arith) in
    let b = length-take-le n l inside in
    let c = length-take-le n (spliced l at m) (omega arith) in
    ext_get_or 0 (take n (spliced l at m)) (spliced (take n l) at m)
    (c ∙ sym (spliced-length (take n l) at m (omega arith) ∙ b)) (λ i h.
    get_or-take n (spliced l at m) i 0 (omega arith) ∙ each i (omega arith) b)
  where
    each : (i : ℕ) → i < n → length (take n l) ≡ n → get_or (spliced l at m) i 0 ≡ get_or (spliced (take n l) at m) i 0
    each i h b = elim (lt_or_le i at) [
      | inl k ↦
          spliced-before l at m (omega arith) i k
          ∙ sym (spliced-before (take n l) at m (omega arith) i k ∙ get_or-take n l i 0 h)
      | inr k ↦ elim (lt_or_le i (at + length m)) [
        | inl j ↦
            let e : at + (i - at) ≡ i = omega arith in
            ap (λ q. get_or (spliced l at m) q 0) (sym e) ∙ spliced-in l at m (omega arith) (i - at) (omega arith)
            ∙ sym (ap (λ q. get_or (spliced (take n l) at m) q 0) (sym e) ∙ spliced-in (take n l) at m (omega arith) (i - at) (omega arith))
        | inr j ↦
            spliced-after l at m (omega arith) i j ∙ sym (spliced-after (take n l) at m (omega arith) i j ∙ get_or-take n l i 0 h)
      ]
    ]
