-- Refusal 7 where a command is put in the place of another of equal length: no `for` is refused that was not refused before.
-- Assumes nothing.
--     no-fors         a file with no `for`
--     still-steady    the new command modifies neither q nor m of a `for`
--     same-steady     each word assigns what it assigned before
use mathlib.Core.Path.{◌≡◌, refl, sym, ap, ap₂, fun_ext, ◌∙◌}
use mathlib.Core.Bool.{Bool, true, false, not, ◌&&◌, ◌||◌, or-true}
use mathlib.Core.List.{List}
use mathlib.Core.Logic.{inl, inr}
use mathlib.Core.Option.{none}
use Prim.Native.Nat.{ℕ, zero, suc, ◌+◌, ◌-◌, ◌/◌, ◌%◌, ◌<◌, ◌≤◌}
use native.Mathlib.Omega.{arith}
use native.Mathlib.Nat.{eq-or-lt_of_le}
use borrow.Author.Tests.{eqb-true, eqb-false}
use lib.Dec.{eqb}
use lib.ListN.{length, get_or}
use Rattle.language.specs.Modifies.{Identifier, scalar_of}
use Rattle.rules.specs.Context.{Limits, Context}
use Rattle.layout.specs.Bytes.{word_count, number_at, kind_at, payload_at, payloads}
use Rattle.layout.specs.Reading.{first_place}
use Rattle.layout.specs.For.{unsteady_at}
use Rattle.layout.specs.File.{File}
use Rattle.ends.specs.Mask.{bit, slot}
use Rattle.ends.specs.Sizes.{sizes}
use Rattle.ends.specs.Blocks.{called_mask, written, if_any, any_in, assigns}
use Rattle.ends.proofs.Marks.{unwritten-below, no-bit}
use Rattle.ends.proofs.Sizes.{lt_or_le}
use Rattle.scan.specs.Steady.{file_context, MaskedFile}
use Rattle.scan.specs.ForsMask.{ForsMask}
use Rattle.scan.proofs.First.{first-none, none-there}
use Rattle.scan.proofs.Tests.{not-for, body_assigns, unsteady-words}

-- a test does not both pass and fail
not-both : {b : Bool} → b ≡ true → b ≡ false → ⊥
not-both e f = let z : ◌≡◌ {A = ℕ} 0 1 = cc in omega (arith, z)

pub no-fors : (file : List ℕ) (Δ : Context) → ForsMask file 0 → first_place (unsteady_at Δ file) (word_count file) 0 ≡ none
no-fors file Δ h = first-none (unsteady_at Δ file) (word_count file) λ i l.
    not-for file file i Δ (λ e. not-both (h.first i l e) (no-bit (payload_at file i % 32)))

-- a test that passes at a word of v only if another passes at the same word of w
any-more : (s t : ℕ → ℕ → Bool) (v w : List ℕ) →
    ((i : ℕ) → s (kind_at v i) (payload_at v i) ≡ true → t (kind_at w i) (payload_at w i) ≡ true) →
    (n at : ℕ) → any_in s v n at ≡ true → any_in t w n at ≡ true
unfolding any_in
any-more s t v w f zero at e = e
any-more s t v w f (suc n) at e = go (s (kind_at v at) (payload_at v at)) (f at) (λ x. any-more s t v w f n (suc at) x) e
  where
    go : (b : Bool) → (b ≡ true → t (kind_at w at) (payload_at w at) ≡ true) →
        (any_in s v n (suc at) ≡ true → any_in t w n (suc at) ≡ true) → (b || any_in s v n (suc at)) ≡ true →
        (t (kind_at w at) (payload_at w at) || any_in t w n (suc at)) ≡ true
    go true g h x = ap (λ b. b || any_in t w n (suc at)) (g refl)
    go false g h x =
        ap (λ b. t (kind_at w at) (payload_at w at) || b) (h x)
        ∙ or-true (t (kind_at w at) (payload_at w at))

-- q is m, or the body modifies one of them
abbrev refused : Bool → Bool → Bool → Bool
refused e a b = not (not e && (not a && not b))

-- where less is modified
refused-less : (e a b c d : Bool) → (c ≡ true → a ≡ true) → (d ≡ true → b ≡ true) → refused e a b ≡ false → refused e c d ≡ false
refused-less true a b c d f g h = h
refused-less false true b c d f g h = absurd (not-both refl h)
refused-less false false true c d f g h = absurd (not-both refl h)
refused-less false false false true d f g h = absurd (not-both (f refl) refl)
refused-less false false false false true f g h = absurd (not-both (g refl) refl)
refused-less false false false false false f g h = refl

-- t and u are the lists of ends of w and of v
module _ (w v t u : List ℕ) (size : length v ≡ length w)
    (listed-w : (at : ℕ) → at < length w → get_or t at 0 ≡ at + get_or (sizes w) at 0)
    (listed-v : (at : ℕ) → at < length v → get_or u at 0 ≡ at + get_or (sizes v) at 0)
    {limits : Limits} {f g : File} (kw : MaskedFile w t limits f) (kv : MaskedFile v u limits g) where
  -- a word of v assigns an identifier only if the same word of w does
  abbrev AssignsLess : Identifier → Type 0
  AssignsLess x = (i : ℕ) → assigns (called_mask v u) x (kind_at v i) (payload_at v i) ≡ true →
      assigns (called_mask w t) x (kind_at w i) (payload_at w i) ≡ true

  -- what is known where a `for` stands in v
  record ForKept (at : ℕ) : Type 0 where
    word : number_at v at ≡ number_at w at
    end : get_or u at 0 ≡ get_or t at 0
    first : AssignsLess (scalar_of (payload_at w at % 32))
    second : AssignsLess (scalar_of (payload_at w at / 32 % 32))

  body_less : (at x : ℕ) → get_or u at 0 ≡ get_or t at 0 → AssignsLess (scalar_of x) →
      body_assigns v u at x ≡ true → body_assigns w t at x ≡ true
  body_less at x e l h =
      ap (λ p. any_in (assigns (called_mask w t) (scalar_of x)) w (p - (at + 1)) (at + 1)) (sym e)
      ∙ any-more (assigns (called_mask v u) (scalar_of x)) (assigns (called_mask w t) (scalar_of x)) v w l (get_or u at 0 - (at + 1)) (at + 1) h

  for-kept : (at : ℕ) → at < length w → kind_at v at ≡ 31 → ForKept at → unsteady_at (file_context limits f) w at ≡ false →
      unsteady_at (file_context limits g) v at ≡ false
  for-kept at l k c h =
      let q = payload_at w at % 32 in
      let m = payload_at w at / 32 % 32 in
      let inside : at < length v = omega arith in
      let kind : kind_at w at ≡ 31 = ap (λ n. n / payloads) (sym c.word) ∙ k in
      unsteady-words v u at limits g kv (listed-v at inside) inside k
      ∙ ap (λ n. refused (eqb (n % payloads % 32) (n % payloads / 32 % 32)) (body_assigns v u at (n % payloads % 32))
      (body_assigns v u at (n % payloads / 32 % 32))) c.word
      ∙ refused-less (eqb q m) (body_assigns w t at q) (body_assigns w t at m) (body_assigns v u at q) (body_assigns v u at m)
      (body_less at q c.end c.first) (body_less at m c.end c.second)
      (sym (unsteady-words w t at limits f kw (listed-w at l) l kind) ∙ h)

  fors_kept : ((at : ℕ) → at < length w → kind_at v at ≡ 31 → ForKept at) →
      first_place (unsteady_at (file_context limits f) w) (word_count w) 0 ≡ none →
      first_place (unsteady_at (file_context limits g) v) (word_count v) 0 ≡ none
  fors_kept c h = first-none (unsteady_at (file_context limits g) v) (word_count v) λ at l.
      go at (omega arith) (eqb (kind_at v at) 31) refl
    where
      go : (at : ℕ) → at < length w → (b : Bool) → eqb (kind_at v at) 31 ≡ b → unsteady_at (file_context limits g) v at ≡ false
      go at l true e =
          let k = eqb-true (kind_at v at) 31 e in
          for-kept at l k (c at l k) (none-there (unsteady_at (file_context limits f) w) (word_count w) h at l)
      go at l false e = not-for v u at (file_context limits g) (eqb-false (kind_at v at) 31 e)

  -- the files differ in the words of a command alone, from `place` up to `to`
  module _ (place to : ℕ) (other : (i : ℕ) → (place ≤ i → to ≤ i) → number_at v i ≡ number_at w i)
      (quiet : (i : ℕ) → place < i → i < to → kind_at v i < 24) (low : kind_at v place ≤ 28)
      (ends : (at : ℕ) → at < length w → (place < at → to ≤ at) → get_or u at 0 ≡ get_or t at 0) where
    -- no word of the command has kind 31
    outside : (at : ℕ) → kind_at v at ≡ 31 → place ≤ at → to ≤ at
    outside at k l = elim (lt_or_le at to) [
      | inl h ↦ elim (eq-or-lt_of_le l) [
        | inl e ↦ absurd (omega (arith, k, low, ap (kind_at v) e))
        | inr i ↦ absurd (omega (arith, k, quiet at i h))
      ]
      | inr h ↦ h
    ]

    for-same : (at : ℕ) → at < length w → kind_at v at ≡ 31 → AssignsLess (scalar_of (payload_at w at % 32)) →
        AssignsLess (scalar_of (payload_at w at / 32 % 32)) → ForKept at
    for-same at l k a b = record {
      word = other at (outside at k);
      end = ends at l (λ i. outside at k (omega arith));
      first = a;
      second = b;
    }

    pub same-steady :
        ((i : ℕ) → written (called_mask v u) (kind_at v i) (payload_at v i) ≡ written (called_mask w t) (kind_at w i) (payload_at w i)) →
        first_place (unsteady_at (file_context limits f) w) (word_count w) 0 ≡ none →
        first_place (unsteady_at (file_context limits g) v) (word_count v) 0 ≡ none
    same-steady same = fors_kept λ at l k.
        for-same at l k (less (scalar_of (payload_at w at % 32))) (less (scalar_of (payload_at w at / 32 % 32)))
      where
        less : (x : Identifier) → AssignsLess x
        less x i e = ap (if_any (λ m. bit m (slot x))) (sym (same i)) ∙ e

    -- the new command assigns only what is in `fresh`, and this has no scalar that a `for` counts with
    module _ {mask : ℕ} (called : (p : ℕ) → called_mask v u p ≡ called_mask w t p) (fors : ForsMask w mask) (fresh : ℕ)
        (marks : (x : Identifier) → assigns (called_mask v u) x (kind_at v place) (payload_at v place) ≡ true → bit fresh (slot x) ≡ true)
        (apart : (i : ℕ) → bit fresh i ≡ true → bit mask i ≡ true → ⊥) where
      moved : (x : Identifier) (i : ℕ) → (place ≤ i → to ≤ i) → assigns (called_mask v u) x (kind_at v i) (payload_at v i) ≡ true →
          assigns (called_mask w t) x (kind_at w i) (payload_at w i) ≡ true
      moved x i o e =
          ap₂ (λ c n. assigns c x (n / payloads) (n % payloads)) (fun_ext λ p. sym (called p)) (sym (other i o)) ∙ e

      less : (x : Identifier) → bit mask (slot x) ≡ true → AssignsLess x
      less x b i e = elim (lt_or_le i place) [
        | inl h ↦ moved x i (λ p. absurd (omega arith)) e
        | inr h ↦ elim (eq-or-lt_of_le h) [
          | inl p ↦ absurd (apart (slot x)
              (marks x (ap (λ j. assigns (called_mask v u) x (kind_at v j) (payload_at v j)) p ∙ e)) b)
          | inr p ↦ elim (lt_or_le i to) [
            | inl q ↦
                absurd (not-both e (ap (if_any (λ m. bit m (slot x)))
                (unwritten-below (called_mask v u) (kind_at v i) (payload_at v i) (omega (arith, quiet i p q)))))
            | inr q ↦ moved x i (λ j. q) e
          ]
        ]
      ]

      pub still-steady : first_place (unsteady_at (file_context limits f) w) (word_count w) 0 ≡ none →
          first_place (unsteady_at (file_context limits g) v) (word_count v) 0 ≡ none
      still-steady = fors_kept λ at l k.
          let kind : kind_at w at ≡ 31 = ap (λ n. n / payloads) (sym (other at (outside at k))) ∙ k in
          for-same at l k (less (scalar_of _) (fors.first at l kind)) (less (scalar_of _) (fors.second at l kind))
