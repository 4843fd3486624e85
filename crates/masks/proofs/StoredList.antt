-- A lent list in which the masks of a file's words are stored: its length, and its numbers by their place.
-- Assumes nothing.
--     stored-length, stored-mask, stored_past    as long as it was lent; the masks of the words; what stands past them
use mathlib.Core.Path.{◌≡◌, refl, sym, ap, ap₂, ◌∙◌}
use mathlib.Core.List.{List}
use Prim.Native.Nat.{ℕ, zero, suc, ◌+◌, ◌-◌, ◌<◌, ◌≤◌}
use native.Mathlib.Omega.{arith}
use lib.ListN.{length, get_or, drop, length-append, length-drop, get_or-append}
use lib.Seq.{get_or-append-add, get_or-drop}
use Rattle.rules.specs.Context.{Limits}
use Rattle.layout.specs.Bytes.{word_count}
use Rattle.layout.specs.File.{File}
use Rattle.masks.specs.Masks.{mask_at, masks_from, stored}

module _ (limits : Limits) (file : List ℕ) (f : File) where
  from-length : (n at : ℕ) → length (masks_from limits file f n at) ≡ n
  unfolding masks_from
  from-length zero at = refl
  from-length (suc n) at = ap suc (from-length n (suc at))

  from_at : (n at i : ℕ) → i < n → get_or (masks_from limits file f n at) i 0 ≡ mask_at limits file f (at + i)
  unfolding masks_from
  from_at zero at i h = absurd (omega arith)
  from_at (suc n) at zero h = let z : at ≡ at + 0 = omega arith in ap (mask_at limits file f) z
  from_at (suc n) at (suc i) h =
      let z : suc at + i ≡ at + suc i = omega arith in
      from_at n (suc at) i (omega arith) ∙ ap (mask_at limits file f) z

  module _ (lent : List ℕ) where
    abbrev front : List ℕ
    front = masks_from limits file f (word_count file) 0

    abbrev rest : List ℕ
    rest = drop (word_count file) lent

    count : length front ≡ word_count file
    count = from-length (word_count file) 0

    pub stored-length : word_count file ≤ length lent → length (stored limits file f lent) ≡ length lent
    stored-length h =
        length-append front rest ∙ ap₂ (λ a b. a + b) count (length-drop (word_count file) lent) ∙ omega arith

    pub stored-mask : (i : ℕ) → i < word_count file → get_or (stored limits file f lent) i 0 ≡ mask_at limits file f i
    stored-mask i l =
        let z : 0 + i ≡ i = omega arith in
        get_or-append front rest 0 i (omega (arith, count)) ∙ from_at (word_count file) 0 i l ∙ ap (mask_at limits file f) z

    pub stored_past : (i : ℕ) → word_count file ≤ i → get_or (stored limits file f lent) i 0 ≡ get_or lent i 0
    stored_past i l =
        let z : length front + (i - word_count file) ≡ i = omega (arith, count) in
        let y : word_count file + (i - word_count file) ≡ i = omega arith in
        ap (λ j. get_or (stored limits file f lent) j 0) (sym z) ∙ get_or-append-add front rest (i - word_count file) 0
        ∙ get_or-drop (word_count file) lent (i - word_count file) 0 ∙ ap (λ j. get_or lent j 0) y
