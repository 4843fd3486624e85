-- The parts of an accepted file lie in its bytes, and of a refused file there are none.
-- Assumes nothing.
--     FileOf, read-bytes                      a file that was read from bytes: its words, and its places in order
--     AcceptedAt, accepted-at, refused-at     the verdict, by the outcome
--     PlacesIn, places-in                     the places of an accepted file are in order and inside its bytes
--     accepted-bytes, refused-bytes, accepted-places, refused-places
--                                             a part's bytes, and its places as one number; of a refused file
--     RangeIn, range-in, range-of
--                                             a part's places are in order and inside the bytes
--     bytes-precondition, .., places-program, ..
--                                             the layout's own definitions of the parts
use mathlib.Core.Path.{◌≡◌, refl, sym, ◌∙◌, ap, ap₂, subst}
use mathlib.Core.Bool.{Bool, true, false}
use mathlib.Core.List.{List, [], ◌∷◌}
use Prim.Native.Nat.{ℕ, ◌*◌, ◌<◌, ◌≤◌}
use native.Mathlib.Omega.{arith}
use lib.ListN.{length}
use Rattle.rules.specs.Context.{Limits, Context, alone}
use Rattle.rules.specs.Judge as judge
use Rattle.layout.specs.Bytes.{words_of, word_count}
use Rattle.layout.specs.Reading.{Reading, read, fault}
use Rattle.layout.specs.EvidenceWords.{command_part, set_part}
use Rattle.layout.specs.Program.{Program, after}
use Rattle.layout.specs.File.{File, bad_length, bytes_read, file_of}
use Rattle.layout.specs.FileWords.{ProgramStands, ProgramsStand}
use Rattle.layout.specs.Verdict.{judged, verdict_of, bytes_between, part_of, precondition, postcondition}
use Rattle.layout.specs.Verdict.{packed_places, program_places, precondition_places, postcondition_places}
use Rattle.layout.proofs.Stands.{stands-end}
use Rattle.layout.proofs.SpelledEvidence.{head-inside}
use Rattle.layout.proofs.WholeFile.{FilePassed, file-stood}
use Rattle.words.proofs.Loading.{words-length}
use Rattle.reader.specs.Program.{places}
use Rattle.context.specs.declared.Refusal.{Refusal}
use Rattle.reader.specs.declared.Places.{Places}
use Rattle.outcomes.specs.Outcome.{Outcome, with_places, outcome_of}
use Rattle.outcomes.specs.declared.Accepted.{Accepted}
use Rattle.std.specs.Prelude.{Ok, Err}
use Rattle.flow.specs.Part.{range_in, range_at, bytes_of, places_of}
use Rattle.flow.specs.declared.part.Part.{Part}
use Rattle.flow.specs.declared.part.Part.TheVariants as parts
use Rattle.layout.proofs.Settings.{settings_read}
use Rattle.words.proofs.Lengths.{bad-file, good-file, good_length}

-- a file that was read from bytes
pub record FileOf (limits : Limits) (bytes : List ℕ) (f : File) (p : ℕ) : Type 0 where
  pub words-read : FilePassed limits (words_of bytes) f p
  pub few : length bytes ≤ 32768
  pub start-pre : f.main.start ≤ f.main.pre_at
  pub pre-post : f.main.pre_at ≤ f.main.post_at
  pub post-evidence : f.main.post_at ≤ f.main.evidence_at
  pub inside : f.main.evidence_at < word_count (words_of bytes)

-- the main program stands, under all procedures
record MainStands (file : List ℕ) (f : Program) : Type 0 where
  context : Context
  stands : ProgramStands context file f

main-stands : (Γ : Context) (file : List ℕ) (l : List Program) (f : Program) (at p : ℕ) → ProgramsStand Γ file l f at p →
    MainStands file f
main-stands Γ file [] f at p h = record { context = Γ; stands = h.1 }
main-stands Γ file (g ∷ l) f at p h = main-stands (after Γ g) file l f g.past p h.2

module _ (limits : Limits) (bytes : List ℕ) where
  file-of : (f : File) (p : ℕ) → length bytes ≤ 32768 → FilePassed limits (words_of bytes) f p → FileOf limits bytes f p
  file-of f p few x =
      let w = words_of bytes in
      let m = main-stands (alone limits) w f.procedures f.main _ _ x.stands.programs in
      let Γ = m.context in
      let g = f.main in
      let h = m.stands in
      let a = stands-end w g.start (command_part Γ g.command).spelling g.pre_at h.command.stand in
      let b = stands-end w g.pre_at (set_part Γ g.pre).spelling g.post_at h.pre.stand in
      let c = stands-end w g.post_at (set_part Γ g.post).spelling g.evidence_at h.post.stand in
      record {
        words-read = x;
        few = few;
        start-pre = omega (arith, a);
        pre-post = omega (arith, b);
        post-evidence = omega (arith, c);
        inside = head-inside Γ w g.evidence Γ.limits.depth g.evidence_at g.past h.evidence;
      }

  pub read-bytes : (f : File) (p : ℕ) → file_of limits bytes ≡ read f p → FileOf limits bytes f p
  read-bytes f p e = go (bad_length bytes) refl
    where
      was_read : bytes_read limits bytes ≡ read f p
      was_read = (settings_read limits bytes f p e).was_read

      go : (t : Bool) → bad_length bytes ≡ t → FileOf limits bytes f p
      go true t = absurd (let k = sym (bad-file limits bytes t) ∙ was_read in let z : ◌≡◌ {A = ℕ} 0 1 = cc in omega arith)
      go false t =
          file-of f p (good_length bytes t) (file-stood limits (words_of bytes) f p (sym (good-file limits bytes t) ∙ was_read))

  pub record AcceptedAt (a : Accepted) : Type 0 where
    pub file : File
    pub end : ℕ
    pub reads : file_of limits bytes ≡ read file end
    pub at : a.places ≡ places file.main.start file.main.pre_at file.main.post_at file.main.evidence_at end
    pub verdict : verdict_of limits bytes ≡ judge.accepted a.count

  accepted-verdict : (v : judge.Verdict) (a : Accepted) (t : Places) → Ok a ≡ with_places v t →
      (v ≡ judge.accepted a.count) × (a.places ≡ t)
  accepted-verdict (judge.accepted m) a t e = let k : a ≡ record { count = m; places = t } = cc in (ap (λ z. judge.accepted z.count) (sym k), ap (λ z. z.places) k)
  accepted-verdict (judge.refused k i) a t e = absurd (let z : ◌≡◌ {A = ℕ} 0 1 = cc in omega arith)

  refused-verdict : (v : judge.Verdict) (x : Refusal) (t : Places) → Err x ≡ with_places v t →
      v ≡ judge.refused x.number x.place
  refused-verdict (judge.accepted m) x t e = absurd (let z : ◌≡◌ {A = ℕ} 0 1 = cc in omega arith)
  refused-verdict (judge.refused m j) x t e = cc

  pub accepted-at : (a : Accepted) → Ok a ≡ outcome_of limits (file_of limits bytes) → AcceptedAt a
  unfolding verdict_of
  accepted-at a = go (file_of limits bytes) refl
    where
      go : (x : Reading File) → file_of limits bytes ≡ x → Ok a ≡ outcome_of limits x → AcceptedAt a
      go (read f p) e h =
          let k = accepted-verdict (judged limits (read f p)) a
          (places f.main.start f.main.pre_at f.main.post_at f.main.evidence_at p) h in
          record {
            file = f;
            end = p;
            reads = e;
            at = k.1;
            verdict = ap (λ (x : Reading File). judged limits x) e ∙ k.0;
          }
      go (fault m p) e h = absurd (let z : ◌≡◌ {A = ℕ} 0 1 = cc in omega arith)

  pub refused-at : (r : Refusal) → Err r ≡ outcome_of limits (file_of limits bytes) →
      verdict_of limits bytes ≡ judge.refused r.number r.place
  unfolding verdict_of
  refused-at r = go (file_of limits bytes)
    where
      go : (x : Reading File) → Err r ≡ outcome_of limits x → judged limits x ≡ judge.refused r.number r.place
      go (read f p) h = refused-verdict (judged limits (read f p)) r
          (places f.main.start f.main.pre_at f.main.post_at f.main.evidence_at p) h
      go (fault m p) h = cc

  -- the places of an accepted file, in order and inside the bytes
  pub record PlacesIn (s : Places) : Type 0 where
    pub few : length bytes ≤ 32768
    pub start-pre : s.start ≤ s.pre
    pub pre-post : s.pre ≤ s.post
    pub post-evidence : s.post ≤ s.evidence
    pub inside : 4 * s.evidence ≤ length bytes

  pub places-in : (a : Accepted) → Ok a ≡ outcome_of limits (file_of limits bytes) → PlacesIn a.places
  places-in a e =
      let x = accepted-at a e in
      let f = read-bytes x.file x.end x.reads in
      let l = words-length bytes in
      subst (λ (z : Places). PlacesIn z) (sym x.at)
      (record {
        few = f.few;
        start-pre = f.start-pre;
        pre-post = f.pre-post;
        post-evidence = f.post-evidence;
        inside = omega (arith, f.inside);
      })

  -- what the code makes of the places is what the definition makes of the file
  part-accepted : {A : Type 0} (none : A) (part : File → A) (of : Places → A) →
      ((f : File) (p : ℕ) → of (places f.main.start f.main.pre_at f.main.post_at f.main.evidence_at p) ≡ part f) →
      (a : Accepted) → Ok a ≡ outcome_of limits (file_of limits bytes) →
      of a.places ≡ part_of none (verdict_of limits bytes) (file_of limits bytes) part
  part-accepted none part of same a e =
      let x = accepted-at a e in
      ap of x.at ∙ same x.file x.end
      ∙ ap₂ (λ v z. part_of none v z part) (sym x.verdict) (sym x.reads)

  part-refused : {A : Type 0} (none : A) (part : File → A) (x : Refusal) →
      Err x ≡ outcome_of limits (file_of limits bytes) →
      none ≡ part_of none (verdict_of limits bytes) (file_of limits bytes) part
  part-refused none part x e = ap (λ v. part_of none v (file_of limits bytes) part) (sym (refused-at x e))

  -- each part: its bytes, or its places as one number
  same-range : (part : Part) (f : File) (p : ℕ) →
      range_at part (places f.main.start f.main.pre_at f.main.post_at f.main.evidence_at p) ≡ range_in part f.main
  same-range parts.Program f p = refl
  same-range parts.Precondition f p = refl
  same-range parts.Postcondition f p = refl

  pub accepted-bytes : (part : Part) (a : Accepted) → Ok a ≡ outcome_of limits (file_of limits bytes) →
      bytes_between bytes (range_at part a.places).0 (range_at part a.places).1 ≡ bytes_of part limits bytes
  unfolding bytes_of
  accepted-bytes part =
      part-accepted [] _ (λ s. bytes_between bytes (range_at part s).0 (range_at part s).1)
      λ f p. ap (λ r. bytes_between bytes r.0 r.1) (same-range part f p)

  pub refused-bytes : (part : Part) (x : Refusal) → Err x ≡ outcome_of limits (file_of limits bytes) → [] ≡ bytes_of part limits bytes
  unfolding bytes_of
  refused-bytes part = part-refused [] _

  pub accepted-places : (part : Part) (a : Accepted) → Ok a ≡ outcome_of limits (file_of limits bytes) →
      packed_places (range_at part a.places).0 (range_at part a.places).1 ≡ places_of part limits bytes
  unfolding places_of
  accepted-places part =
      part-accepted 0 _ (λ s. packed_places (range_at part s).0 (range_at part s).1)
      λ f p. ap (λ r. packed_places r.0 r.1) (same-range part f p)

  pub refused-places : (part : Part) (x : Refusal) → Err x ≡ outcome_of limits (file_of limits bytes) → 0 ≡ places_of part limits bytes
  unfolding places_of
  refused-places part = part-refused 0 _

  -- a part's places are in order, and inside the bytes
  pub record RangeIn (range : ℕ × ℕ) : Type 0 where
    pub order : range.0 ≤ range.1
    pub inside : 4 * range.1 ≤ length bytes
    pub few : range.1 ≤ 8192

  pub range-in : (part : Part) {s : Places} → PlacesIn s → RangeIn (range_at part s)
  range-in parts.Program h =
      record { order = h.start-pre; inside = omega (arith, h.pre-post, h.post-evidence, h.inside); few = omega (arith, h.few, h.pre-post, h.post-evidence, h.inside) }
  range-in parts.Precondition h =
      record { order = h.pre-post; inside = omega (arith, h.post-evidence, h.inside); few = omega (arith, h.few, h.post-evidence, h.inside) }
  range-in parts.Postcondition h =
      record { order = h.post-evidence; inside = h.inside; few = omega (arith, h.few, h.inside) }

-- the same of a range that is given
pub range-of : (limits : Limits) (bytes : List ℕ) (part : Part) {a : Accepted} {range : ℕ × ℕ} → range ≡ range_at part a.places →
    Ok a ≡ outcome_of limits (file_of limits bytes) → RangeIn limits bytes range
range-of limits bytes part {a} e h =
    subst (λ z. RangeIn limits bytes z) (sym e) (range-in limits bytes part (places-in limits bytes a h))

-- the layout's own definitions of the parts
pub bytes-precondition : (limits : Limits) (bytes : List ℕ) → bytes_of parts.Precondition limits bytes ≡ precondition limits bytes
unfolding bytes_of precondition
bytes-precondition limits bytes = refl

pub bytes-postcondition : (limits : Limits) (bytes : List ℕ) → bytes_of parts.Postcondition limits bytes ≡ postcondition limits bytes
unfolding bytes_of postcondition
bytes-postcondition limits bytes = refl

pub places-program : (limits : Limits) (bytes : List ℕ) → places_of parts.Program limits bytes ≡ program_places limits bytes
unfolding places_of program_places
places-program limits bytes = refl

pub places-precondition : (limits : Limits) (bytes : List ℕ) → places_of parts.Precondition limits bytes ≡ precondition_places limits bytes
unfolding places_of precondition_places
places-precondition limits bytes = refl

pub places-postcondition : (limits : Limits) (bytes : List ℕ) → places_of parts.Postcondition limits bytes ≡ postcondition_places limits bytes
unfolding places_of postcondition_places
places-postcondition limits bytes = refl
