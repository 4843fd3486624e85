-- The table of a file whose command at a place is another of equal length, by the table before.
-- Assumes nothing.
--     Exchanged                      a skip, an assert or an assignment stands from a place up to another, and all else is as it was
--     outside-same, sizes-same       the words outside; the sizes of what starts there
--     outside-listed                 the ends of these, in the list
--     new-kind, new-rest             the kinds of the new command's words
--     count_same, start-same, mask-same, called-kept
--                                    the number of procedures; their starts and masks, in a list that is the same behind the words
--     first-same, marks-same         with the same first word, each word assigns what it did; masks of words that do
--     made-stays                     the masks of procedures stay
--     same-found, apart-found        refusal 7 lets the words pass as before: the first word is the same; it assigns nothing that a `for`
--                                    counts with
use mathlib.Core.Path.{◌≡◌, refl, sym, ap, ap₂, fun_ext, subst, ◌∙◌}
use Rattle.std.specs.Prelude.{Ok}
use mathlib.Core.Bool.{Bool, true, false, ◌||◌, cond}
use mathlib.Core.List.{List}
use mathlib.Core.Logic.{inl, inr}
use mathlib.Core.Option.{Option}
use Prim.Native.Nat.{ℕ, zero, suc, ◌+◌, ◌*◌, ◌-◌, ◌/◌, ◌%◌, ◌<◌, ◌≤◌}
use native.Mathlib.Omega.{arith}
use lib.Dec.{eqb, ltb, leb}
use lib.ListN.{length, get_or}
use Rattle.language.specs.Modifies.{Identifier}
use Rattle.layout.specs.Bytes.{kind_at, payload_at, payloads}
use Rattle.ends.specs.Mask.{bit, slot}
use Rattle.ends.specs.Blocks.{table_at, procedure_mask, called_mask, written, if_any, any_in, assigns, Marks}
use Rattle.ends.specs.Ends.{EndsListed}
use Rattle.ends.specs.Sizes.{sizes}
use Rattle.ends.specs.Places.{end_at}
use Rattle.ends.specs.Procedures.{start_at, mask_at}
use Rattle.ends.proofs.Sizes.{lt_or_le}
use Rattle.ends.proofs.Swap.{sizes-swapped}
use Rattle.ends.proofs.Marks.{unwritten-below}
use Rattle.scan.specs.Programs.{procedure_count, MaskMade}
use Rattle.scan.proofs.ProcedureMasks.{count_none}
use Rattle.splice.specs.SimpleWords.{read_to}
use Rattle.layout.specs.File.{words_read}
use Rattle.ends.specs.Blocks.{with_mark}
use Rattle.ends.proofs.Marks.{mark-bit, no-bit}
use Rattle.scan.specs.ForsMask.{ForsMask}
use Rattle.scan.proofs.StillSteady.{same-steady, still-steady}
use Rattle.context.specs.Contexts.{limits_of}
use Rattle.context.specs.declared.Context as code
use Rattle.reader.specs.File.{places_of}
use Rattle.reader.specs.declared.Places.{Places}
use Rattle.splice.proofs.ReadTo.{low-rest, kinds-below, read-ends}
use Rattle.changed_file.specs.Tables.{Marked, Stays, SameBehind, AssignsAny}
use Rattle.changed_file.proofs.Tables.{marked-file, found_none, steady-before}

pub record Exchanged (w v : List ℕ) (place to : ℕ) : Type 0 where
  pub size : length v ≡ length w
  pub before : (i : ℕ) → i < place → get_or v i 0 ≡ get_or w i 0
  pub behind : (i : ℕ) → to ≤ i → get_or v i 0 ≡ get_or w i 0
  pub old-levels : ℕ
  pub old : read_to w old-levels place to ≡ true
  pub new-levels : ℕ
  pub new : read_to v new-levels place to ≡ true

module _ {w v : List ℕ} {place to : ℕ} (x : Exchanged w v place to) where
  pub outside-same : (i : ℕ) → (place ≤ i → to ≤ i) → get_or v i 0 ≡ get_or w i 0
  outside-same i h = elim (lt_or_le i place) [ inl l ↦ x.before i l | inr l ↦ x.behind i (h l) ]

  old-ends : (place < to) × (to ≤ length w) × (place + get_or (sizes w) place 0 ≡ to)
  old-ends = read-ends w x.old-levels place to x.old

  new-ends : (place < to) × (to ≤ length v) × (place + get_or (sizes v) place 0 ≡ to)
  new-ends = read-ends v x.new-levels place to x.new

  pub sizes-same : (at : ℕ) → at < length w → (place < at → to ≤ at) → get_or (sizes v) at 0 ≡ get_or (sizes w) at 0
  sizes-same = sizes-swapped w v place to x.size old-ends.0 old-ends.1 x.before x.behind old-ends.2 new-ends.2

  pub outside-listed : {t : List ℕ} → EndsListed w t → (at : ℕ) → at < length v → (place ≤ at → to ≤ at) →
      get_or t at 0 ≡ at + get_or (sizes v) at 0
  outside-listed l at h o =
      let i : at < length w = omega (arith, x.size) in
      l.sized at i ∙ ap (λ n. at + n) (sym (sizes-same at i (λ k. o (omega arith))))

  -- the kinds of the words of both commands
  old-kind : (i : ℕ) → place ≤ i → i < to → kind_at w i ≤ 28
  old-kind = kinds-below w x.old-levels place to x.old

  pub new-kind : (i : ℕ) → place ≤ i → i < to → kind_at v i ≤ 28
  new-kind = kinds-below v x.new-levels place to x.new

  pub new-rest : (i : ℕ) → place < i → i < to → kind_at v i < 24
  new-rest i l m = low-rest v x.new-levels place to x.new i l m

  -- word 1 is outside, or no word 62:k
  pub count_same : procedure_count v ≡ procedure_count w
  unfolding procedure_count
  count_same = elim (lt_or_le 1 place) [
    | inl l ↦ outside (x.before 1 l)
    | inr l ↦ elim (lt_or_le 1 to) [
      | inl m ↦
          let a = new-kind 1 l m in
          let b = old-kind 1 l m in
          sym (count_none v (λ e. omega arith)) ∙ count_none w (λ e. omega arith)
      | inr m ↦ outside (x.behind 1 m)
    ]
  ]
    where
      outside : get_or v 1 0 ≡ get_or w 1 0 → procedure_count v ≡ procedure_count w
      outside e =
          ap (λ n. cond (eqb (n / payloads) 62) (cond (leb (n % payloads) 16) (n % payloads) 16) 0) e

  -- ---- a list that agrees behind the words
  module _ {t u : List ℕ} (a : SameBehind (length v) t u) where
    table_same : table_at v ≡ table_at w
    table_same = ap (λ n. n + 2 * (n / 32)) x.size

    behind-same : (i : ℕ) → get_or u (table_at v + i) 0 ≡ get_or t (table_at w + i) 0
    behind-same i = a.behind (table_at v + i) (omega arith) ∙ ap (λ n. get_or t (n + i) 0) table_same

    pub start-same : (i : ℕ) → start_at v u i ≡ start_at w t i
    start-same i = behind-same i

    pub mask-same : (i : ℕ) → mask_at v u i ≡ mask_at w t i
    mask-same i =
        let e : (n : ℕ) → n + 17 + 2 * i ≡ n + (17 + 2 * i) = λ n. omega arith in
        let f : (n : ℕ) → n + 17 + 2 * i + 1 ≡ n + (17 + 2 * i + 1) = λ n. omega arith in
        ap₂ (λ p q. p + 4294967296 * q)
        (ap (λ k. get_or u k 0) (e (table_at v)) ∙ behind-same (17 + 2 * i) ∙ ap (λ k. get_or t k 0) (sym (e (table_at w))))
        (ap (λ k. get_or u k 0) (f (table_at v)) ∙ behind-same (17 + 2 * i + 1) ∙ ap (λ k. get_or t k 0) (sym (f (table_at w))))

    pub called-kept : (p : ℕ) → called_mask v u p ≡ called_mask w t p
    unfolding procedure_mask
    called-kept p = ap (λ n. cond (ltb p 16) n 0) (mask-same p)

  -- ---- what words assign
  abbrev Same : (ℕ → ℕ) → ℕ → Type 0
  Same called i = written called (kind_at v i) (payload_at v i) ≡ written called (kind_at w i) (payload_at w i)

  number_same : (called : ℕ → ℕ) (i : ℕ) → get_or v i 0 ≡ get_or w i 0 → Same called i
  number_same called i e = ap (λ n. written called (n / payloads) (n % payloads)) e

  pub first-same : get_or v place 0 ≡ get_or w place 0 → (called : ℕ → ℕ) (i : ℕ) → Same called i
  first-same e called i = elim (lt_or_le i place) [
    | inl l ↦ number_same called i (x.before i l)
    | inr l ↦ elim (lt_or_le place i) [
      | inl m ↦ elim (lt_or_le i to) [
        | inl k ↦
            let a = new-rest i m k in
            let b = low-rest w x.old-levels place to x.old i m k in
            unwritten-below called (kind_at v i) (payload_at v i) (omega arith)
            ∙ sym (unwritten-below called (kind_at w i) (payload_at w i) (omega arith))
        | inr k ↦ number_same called i (x.behind i k)
      ]
      | inr m ↦ let z : place ≡ i = omega arith in subst (Same called) z (number_same called place e)
    ]
  ]

  any_same : (called : ℕ → ℕ) (y : Identifier) (n at : ℕ) → ((i : ℕ) → at ≤ i → i < at + n → Same called i) →
      any_in (assigns called y) w n at ≡ any_in (assigns called y) v n at
  unfolding any_in
  any_same called y zero at h = refl
  any_same called y (suc n) at h =
      ap₂ (λ a b. a || b) (ap (if_any (λ m. bit m (slot y))) (sym (h at (omega arith) (omega arith))))
      (any_same called y n (suc at) (λ i l m. h i (omega arith) (omega arith)))

  pub marks-same : {called : ℕ → ℕ} {n at mask : ℕ} → ((i : ℕ) → at ≤ i → i < at + n → Same called i) → Marks called w n at mask →
      Marks called v n at mask
  marks-same {called} {n} {at} h m = record { marks = λ y. m.marks y ∙ any_same called y n at h }

  -- ---- the masks of procedures
  pub made-stays : {t u : List ℕ} {same r : Bool} → (same ≡ true → get_or v place 0 ≡ get_or w place 0) → EndsListed w t →
      Stays v t place to same r → r ≡ true → EndsListed v u → SameBehind (length v) t u → (i : ℕ) → i < procedure_count v → MaskMade w t i →
      MaskMade v u i
  made-stays {t} {u} {same} {r} first l st is k a i h m = record {
    called = m.called;
    lower = λ j g. m.lower j g ∙ sym (mask-same a j);
    marks = λ from past s f e g.
        let old-start : start_at w t i ≡ from = sym (start-same a i) ∙ s in
        let start : start_at v t i ≡ from = sym (a.behind (table_at v + i) (omega arith)) ∙ s in
        let f' : from < length w = omega (arith, x.size) in
        let out : place < from → to ≤ from = λ z. (let y = (st.each is i h).outside (omega (arith, start, z)) in omega (arith, y, start)) in
        let end : end_at t from ≡ past =
        l.sized from f' ∙ ap (λ n. from + n) (sym (sizes-same from f' out)) ∙ sym (k.sized from f) ∙ e in
        subst (Marks m.called v (past - from) from) (sym (mask-same a i))
        (marks-same (λ j b c. each from past start end j b (omega arith) same refl) (m.marks from past old-start f' end (omega (arith, x.size))));
  }
    where
      each : (from past : ℕ) → start_at v t i ≡ from → end_at t from ≡ past → (j : ℕ) → from ≤ j → j < past → (q : Bool) → same ≡ q →
          Same m.called j
      each from past start end j b c true z = first-same (first z) m.called j
      each from past start end j b c false z = elim ((st.each is i h).apart z) [
        | inl y ↦
            let d : end_at t from ≤ place = subst (λ n. end_at t n ≤ place) start y in
            number_same m.called j (x.before j (omega (arith, d, end, c)))
        | inr y ↦ number_same m.called j (x.behind j (omega (arith, y, start, b)))
      ]

  -- ---- refusal 7
  module _ {Γ : code.Context} {s : Places} {t u : List ℕ} (m : Marked w Γ s t) (was : Ok s ≡ places_of (words_read (limits_of Γ) w))
      (k : Marked v Γ s u) (a : SameBehind (length v) t u) where
    ends_same : (at : ℕ) → at < length w → (place < at → to ≤ at) → get_or u at 0 ≡ get_or t at 0
    ends_same at h o =
        k.listed.sized at (omega (arith, x.size)) ∙ ap (λ n. at + n) (sizes-same at h o) ∙ sym (m.listed.sized at h)

    pub same-found : get_or v place 0 ≡ get_or w place 0 → Ok s ≡ places_of (words_read (limits_of Γ) v)
    same-found e =
        found_none k
        (same-steady w v t u x.size m.listed.sized k.listed.sized (marked-file m) (marked-file k) place to outside-same new-rest
        (new-kind place (omega arith) new-ends.0) ends_same
        (λ i. first-same e (called_mask v u) i
        ∙ ap (λ c. written c (kind_at w i) (payload_at w i)) (fun_ext (called-kept a)))
        (steady-before m was))

    pub apart-found : {fors : ℕ} {r : Bool} → ForsMask w fors → AssignsAny fors (kind_at v place) (payload_at v place) r → r ≡ false →
        Ok s ≡ places_of (words_read (limits_of Γ) v)
    apart-found {fors} {r} f h e =
        found_none k
        (still-steady w v t u x.size m.listed.sized k.listed.sized (marked-file m) (marked-file k) place to outside-same new-rest
        (new-kind place (omega arith) new-ends.0) ends_same (called-kept a) f (with_mark 0 o)
        (λ y z. own-bit (slot y) ∙ z) (λ i z. h.none e (called_mask v u) i (sym (own-bit i) ∙ z)) (steady-before m was))
      where
        o : Option ℕ
        o = written (called_mask v u) (kind_at v place) (payload_at v place)

        own-bit : (i : ℕ) → bit (with_mark 0 o) i ≡ if_any (λ n. bit n i) o
        own-bit i = mark-bit o 0 i ∙ ap (λ b. b || if_any (λ n. bit n i) o) (no-bit i)
