-- A file with a skip, an assert or an assignment in the place of another that takes as many levels or more: it is read as before, and what
-- the list of starts has of it stays.
-- Assumes nothing.
--     fits-wherever     the new command is read wherever the old one is
--     calls-kept, spliced-right
--                       the law; of words in the place of as many
use mathlib.Core.Path.{◌≡◌, refl, sym, ap, ap₂, subst, ◌∙◌}
use Rattle.std.specs.Prelude.{Ok}
use mathlib.Core.Bool.{true, false, not, ◌&&◌}
use mathlib.Core.List.{List, [], ◌∷◌}
use mathlib.Core.Logic.{◌⊎◌, inl, inr}
use Prim.Native.Nat.{ℕ, suc, ◌+◌, ◌*◌, ◌/◌, ◌%◌, ◌<◌, ◌≤◌}
use native.Mathlib.Omega.{arith}
use lib.Dec.{eqb, ltb}
use lib.ListN.{length, get_or}
use Rattle.rules.specs.Context.{Limits, alone, standard}
use Rattle.layout.specs.Bytes.{word_count, number_at, kind_at, payload_at, payloads}
use Rattle.layout.specs.Reading.{Reading, read, fault, first_place}
use Rattle.layout.specs.Program.{Program}
use Rattle.layout.specs.File.{File}
use Rattle.layout.specs.Nodes.{command_node}
use Rattle.layout.proofs.Resolved.{right-calls}
use Rattle.reader.specs.Walk.{command_walk}
use Rattle.reader.specs.Program.{places}
use Rattle.reader.specs.File.{places_of, starts_from, starts_of, read_of}
use Rattle.reader.specs.declared.Places.{Places}
use Rattle.reader.proofs.Programs.{ends, trace_of}
use Rattle.reader.proofs.Kept.{Swapped, read_kept}
use Rattle.ends.specs.Procedures.{start_at}
use Rattle.ends.proofs.Sizes.{lt_or_le}
use Rattle.scan.specs.Programs.{procedure_count, StartsFrom, StartsListed}
use Rattle.scan.specs.Calls.{callable_from, wrong_at}
use Rattle.scan.proofs.First.{first-start, first_past, first-end}
use Rattle.scan.proofs.FilePrograms.{count-procedures}
use Rattle.scan.proofs.WrongCalls.{wrong_other, wrong_calls}
use Rattle.context.specs.Contexts.{limits_of}
use Rattle.context.specs.declared.Context as code
use Rattle.file.specs.Found.{CallsRight}
use Rattle.file.proofs.Found.{found-read, read-file}
use Rattle.splice.specs.Splice.{spliced}
use Rattle.splice.specs.SimpleWords.{read_to}
use Rattle.splice.specs.Extent.{ExtentOf}
use Rattle.splice.specs.declared.extent.Extent.{Extent}
use Rattle.splice.proofs.Splice.{spliced-length, spliced-before, spliced-after}
use Rattle.splice.proofs.Shift.{read-stands}
use Rattle.splice.proofs.ReadTo.{read-is_simple, read_walk, walk-stands, walk-deeper, kind-bounds, no-calls, read-ends}

-- r is the extent of the old command, which is read with `most` levels up to `to`; so is the new one, with as many as the old one takes
pub fits-wherever : (w v : List ℕ) (place to most : ℕ) (r : Extent) → ExtentOf w place most r → command_walk w most place ≡ Ok to →
    command_walk v r.levels place ≡ Ok to → (d p : ℕ) → command_walk w d place ≡ Ok p →
    (command_walk v d place ≡ Ok p) × (to ≤ p)
fits-wherever w v place to most r x old new d p e = go (lt_or_le most d)
  where
    stands_at : (n q : ℕ) → n ≤ most → command_walk w n place ≡ Ok q → (r.end ≡ q) × (r.levels ≤ n)
    stands_at n q l e =
        let k = walk-stands w n place q e in
        let s = (read-stands w (alone standard) n place k.1).0 in
        (x.end (command_node (alone standard) k.0) n q l s, x.least (command_node (alone standard) k.0) n q l s)

    go : (most < d) ⊎ (d ≤ most) → (command_walk v d place ≡ Ok p) × (to ≤ p)
    go (inl l) =
        let f = walk-deeper w most d place to (omega arith) old in
        let same : to ≡ p = cc in
        (walk-deeper v r.levels d place to (omega (arith, x.few)) new ∙ ap Ok same, omega arith)
    go (inr l) =
        let a = stands_at d p l e in
        let b = stands_at most to (omega arith) old in
        let same : to ≡ p = sym b.0 ∙ a.0 in
        (walk-deeper v r.levels d place to a.1 new ∙ ap Ok same, omega arith)

-- ---- the file is read as before
-- what was read, by its trace
trace-read : (x : Reading File) {l : List ℕ} {s : Places} → trace_of x ≡ ends l s →
    (f : File) × (p : ℕ) × (x ≡ read f p) × (starts_of f ≡ l) × (Ok s ≡ places_of x)
trace-read (read f p) {l} {s} e =
    let a : starts_of f ≡ l = cc in
    let b : s ≡ places f.main.start f.main.pre_at f.main.post_at f.main.evidence_at p = cc in
    (f, p, refl, a, ap Ok b)
trace-read (fault n p) e = absurd (let z : ◌≡◌ {A = ℕ} 0 1 = cc in omega arith)

-- the programs start where the list says, by their starts alone
starts-same : (w v table : List ℕ) → ((j : ℕ) → start_at v table j ≡ start_at w table j) → (l m : List Program) (f g : Program) (i : ℕ) →
    starts_from l f ≡ starts_from m g → StartsFrom w table l f i → StartsFrom v table m g i
starts-same w v table at [] [] f g i e s = let z : f.start ≡ g.start = cc in at i ∙ s ∙ z
starts-same w v table at [] (b ∷ []) f g i e s = absurd (let z : ◌≡◌ {A = ℕ} 0 1 = cc in omega arith)
starts-same w v table at [] (b ∷ (c ∷ m)) f g i e s = absurd (let z : ◌≡◌ {A = ℕ} 0 1 = cc in omega arith)
starts-same w v table at (a ∷ []) [] f g i e s = absurd (let z : ◌≡◌ {A = ℕ} 0 1 = cc in omega arith)
starts-same w v table at (a ∷ (c ∷ l)) [] f g i e s = absurd (let z : ◌≡◌ {A = ℕ} 0 1 = cc in omega arith)
starts-same w v table at (a ∷ l) (b ∷ m) f g i e s =
    let z : a.start ≡ b.start = cc in
    let y : starts_from l f ≡ starts_from m g = cc in
    (at i ∙ s.0 ∙ z, starts-same w v table at l m f g (suc i) y s.1)

starts-count : (l : List Program) (f : Program) → length (starts_from l f) ≡ suc (length l)
starts-count [] f = refl
starts-count (g ∷ l) f = ap suc (starts-count l f)

module _ {w v table : List ℕ} {Γ : code.Context} {s : Places} {place to : ℕ} (c : CallsRight w Γ s table) (h : Swapped w v place to)
    (some-new : place < to) (none-new : (i : ℕ) → place ≤ i → i < to → kind_at v i ≡ 38 → ⊥) where
  abbrev limits : Limits
  limits = limits_of Γ

  start-kept : (j : ℕ) → start_at v table j ≡ start_at w table j
  start-kept j = ap (λ n. get_or table (n + 2 * (n / 32) + j) 0) h.size

  module _ (f : File) (p : ℕ) (e : read_of limits w ≡ read f p)
      (g : File) (q : ℕ) (again : read_of limits v ≡ read g q) (same : starts_of g ≡ starts_of f) where
    starts-kept : StartsListed v table g
    starts-kept = record {
      starts = starts-same w v table start-kept f.procedures g.procedures f.main g.main 0 (sym same) (c.found.starts f p e).starts;
    }

    count_kept : procedure_count v ≡ procedure_count w
    count_kept =
        let a = count-procedures limits v g (read-file limits v g q again) in
        let b = count-procedures limits w f (read-file limits w f p e) in
        let n = starts-count g.procedures g.main in
        let m = starts-count f.procedures f.main in
        omega (arith, a, b, n, m, ap length same)

    -- a call that was not wrong
    right-before : (i : ℕ) → i < word_count w → wrong_at w table i ≡ false
    right-before i l =
        let x = wrong_calls w table limits f (read-file limits w f p e) (c.found.starts f p e) in
        ap (λ t. t i) x ∙ (right-calls w f.procedures (ap (λ t. first_place t (word_count w) 0) (sym x) ∙ c.right)).right i l

    wrong_kept : (i : ℕ) → number_at v i ≡ number_at w i → wrong_at v table i ≡ wrong_at w table i
    unfolding wrong_at
    wrong_kept i e =
        ap₂ (λ x n. eqb (x / payloads) 38 && not (ltb (x % payloads) (callable_from (start_at v table) n 0 i))) e count_kept
        ∙ ap (λ n. eqb (kind_at w i) 38 && not (ltb (payload_at w i) (callable_from (λ j. get_or table (n + 2 * (n / 32) + j) 0) (procedure_count w) 0 i)))
        h.size

    right-after : (i : ℕ) → i < word_count v → wrong_at v table i ≡ false
    right-after i l = elim (lt_or_le i place) [
      | inl k ↦ outside (λ z. omega arith) (λ z. absurd (omega arith))
      | inr k ↦ elim (lt_or_le i to) [
        | inl m ↦ sym (wrong_other v table i (none-new i k m))
        | inr m ↦ outside (λ z. omega arith) (λ z. m)
      ]
    ]
      where
        outside : (i ≡ place → ⊥) → (place < i → to ≤ i) → wrong_at v table i ≡ false
        outside a b = wrong_kept i (h.other i a b) ∙ right-before i (omega (arith, h.size))

    kept_here : Ok s ≡ places_of (read_of limits v) → CallsRight v Γ s table
    kept_here at = record {
      found = record {
        found = at;
        starts = λ k r x.
            let z : read g q ≡ read k r = sym again ∙ x in
            let y : g ≡ k = cc in
            subst (StartsListed v table) y starts-kept;
      };
      right =
          let t = wrong_at v table in
          let n = word_count v in
          sym (first-start t n) ∙ first_past t n 0 n (omega arith) (omega arith) (λ i a b. right-after i b) ∙ first-end t n n (omega arith);
    }

  pub calls-kept : CallsRight v Γ s table
  calls-kept =
      let r = found-read (read_of limits w) s c.found.found in
      let same = ap trace_of r.was_read ∙ ap (ends (starts_of r.file)) (sym r.at) in
      let k = trace-read (read_of limits v) (read_kept h limits (starts_of r.file) s same) in
      kept_here r.file r.end r.was_read k.0 k.1 k.2 k.3 k.4

-- m in the place of as many words of w, which has such a command there; r is its extent
module _ {w table : List ℕ} {Γ : code.Context} {s : Places} (c : CallsRight w Γ s table) (m : List ℕ) (place : ℕ)
    (room : place + length m ≤ length w) (most : ℕ) (old : read_to w most place (place + length m) ≡ true) {r : Extent}
    (x : ExtentOf w place most r) where
  abbrev new : List ℕ
  new = spliced w place m

  swapped : read_to new r.levels place (place + length m) ≡ true → Swapped w new place (place + length m)
  swapped h =
      let to = place + length m in
      let a = kind-bounds (kind_at w place) (read-is_simple w most place to old) in
      let b = kind-bounds (kind_at new place) (read-is_simple new r.levels place to h) in
      record {
        size = spliced-length w place m room;
        other = λ i n l. elim (lt_or_le i place) [
          | inl k ↦ spliced-before w place m room i k
          | inr k ↦ spliced-after w place m room i (l (behind i n k))
        ];
        old-least = a.0;
        old-most = a.1;
        new-most = b.1;
        fits = fits-wherever w new place to most r x (read_walk w most place to old) (read_walk new r.levels place to h);
      }
    where
      behind : (i : ℕ) → (i ≡ place → ⊥) → place ≤ i → place < i
      behind i n k = elim (lt_or_le place i) [ inl l ↦ l | inr l ↦ absurd (n (omega arith)) ]

  pub spliced-right : read_to new r.levels place (place + length m) ≡ true → CallsRight new Γ s table
  spliced-right h =
      let to = place + length m in
      calls-kept c (swapped h) (read-ends new r.levels place to h).0 (no-calls new r.levels place to h)
