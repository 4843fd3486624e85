-- Words that refusals 2 to 6 let pass: the trees of the file stand at the places that were found.
-- Assumes nothing.
--     ReadAt, found-read                             what was read, by its places
--     read-file, read-stands                         what 2 to 6 let pass stands; what 2 to 7 and 16 let pass
--     words-steady, words-unsteady, words-wrong, words-refused
--                                                    refusals 2 to 7 and 16, by what the code finds
--     words_back                                     what 2 to 7 and 16 let pass, 2 to 6 do
--     starts-listed, lent-starts                     the starts of the programs, in a list; in the part that was lent for them
use mathlib.Core.Path.{◌≡◌, refl, sym, ap, ◌∙◌}
use mathlib.Core.Bool.{Bool, true, false}
use mathlib.Core.List.{List, [], ◌∷◌, ◌++◌}
use mathlib.Core.Option.{Option, none, some}
use Prim.Native.Nat.{ℕ, suc, ◌+◌, ◌≤◌}
use native.Mathlib.Omega.{arith}
use borrow.Author.Tests.{eqb-true}
use lib.ListN.{length, get_or, take, length-take}
use lib.Seq.{get_or-append-add, take-append-le, length-take-le}
use Rattle.std.specs.Prelude.{Ok, Err}
use Rattle.rules.specs.Context.{Limits}
use Rattle.layout.specs.Bytes.{word_count}
use Rattle.layout.specs.Reading.{Reading, read, fault, on_read, first_place}
use Rattle.layout.specs.Program.{Program}
use Rattle.layout.specs.Call.{wrong_call}
use Rattle.layout.specs.For.{unsteady_at}
use Rattle.layout.specs.File.{File, parts, steady_file, calls_tested, words_read}
use Rattle.layout.specs.FileWords.{FileStands}
use Rattle.layout.proofs.WholeFile.{parts-stood, parts-inside, file-stood}
use Rattle.context.specs.declared.Refusal.{Refusal}
use Rattle.reader.specs.File.{places_of, starts_from, starts_of, ended, headed, read_of}
use Rattle.reader.specs.Program.{places}
use Rattle.reader.specs.declared.Places.{Places}
use Rattle.reader.proofs.Whole.{words-read, ended-read, refused-file}
use Rattle.ends.specs.Blocks.{table_at}
use Rattle.ends.specs.Procedures.{start_at}
use Rattle.scan.specs.Programs.{StartsFrom, StartsListed}
use Rattle.scan.specs.Steady.{file_context}

-- the file that was read at these places
pub record ReadAt (x : Reading File) (s : Places) : Type 0 where
  pub file : File
  pub end : ℕ
  pub was_read : x ≡ read file end
  pub at : s ≡ places file.main.start file.main.pre_at file.main.post_at file.main.evidence_at end

pub found-read : (x : Reading File) (s : Places) → Ok s ≡ places_of x → ReadAt x s
found-read (read f p) s e = record { file = f; end = p; was_read = refl; at = (cc) }
found-read (fault n p) s e = absurd (let z : ◌≡◌ {A = ℕ} 0 1 = cc in omega arith)

module _ (limits : Limits) (w : List ℕ) where
  -- refusals 2 to 6 let the words pass
  pub read-file : (f : File) (p : ℕ) → read_of limits w ≡ read f p → FileStands limits w f
  unfolding read_of
  read-file f p h = go (headed w) refl h
    where
      go : (t : Bool) → headed w ≡ t →
          elim t [ true ↦ on_read (parts limits w) (ended w) | false ↦ fault 2 0 ] ≡ read f p → FileStands limits w f
      go true t k =
          let e = ended-read w (parts limits w) f p k in
          let s = parts-stood limits w f p e.0 in
          let i = parts-inside limits w f p s in
          let end : p ≡ word_count w = omega (arith, i, e.1) in
          record { count = eqb-true _ _ t; table = s.table; few = s.few; programs = rw end at s.programs }
      go false t k = absurd (let z : ◌≡◌ {A = ℕ} 0 1 = cc in omega arith)

  -- ---- refusals 2 to 7 and 16
  abbrev Wrong : File → Option ℕ → Type 0
  Wrong f o = first_place (wrong_call w f.procedures) (word_count w) 0 ≡ o

  abbrev Unsteady : File → Option ℕ → Type 0
  Unsteady f o = first_place (unsteady_at (file_context limits f) w) (word_count w) 0 ≡ o

  pub words-steady : (f : File) (p : ℕ) → read_of limits w ≡ read f p → Wrong f none → Unsteady f none →
      words_read limits w ≡ read f p
  unfolding steady_file calls_tested
  words-steady f p e c h = words-read limits w ∙ rw e (rw (c, calls_tested) (rw (h, steady_file) refl))

  pub words-unsteady : (f : File) (p at : ℕ) → read_of limits w ≡ read f p → Wrong f none → Unsteady f (some at) →
      words_read limits w ≡ fault 7 at
  unfolding steady_file calls_tested
  words-unsteady f p at e c h = words-read limits w ∙ rw e (rw (c, calls_tested) (rw (h, steady_file) refl))

  pub words-wrong : (f : File) (p at : ℕ) → read_of limits w ≡ read f p → Wrong f (some at) →
      words_read limits w ≡ fault 16 at
  unfolding calls_tested
  words-wrong f p at e c = words-read limits w ∙ rw e (rw (c, calls_tested) refl)

  pub words-refused : (x : Refusal) → Err x ≡ places_of (read_of limits w) →
      words_read limits w ≡ fault x.number x.place
  words-refused x e = words-read limits w ∙ rw (refused-file (read_of limits w) x e) refl

  -- a file that 2 to 7 and 16 let pass
  pub read-stands : (f : File) (p : ℕ) → words_read limits w ≡ read f p → FileStands limits w f
  read-stands f p e = (file-stood limits w f p e).stands

  -- the file that was read is one
  pub words_back : (f g : File) (p q : ℕ) → words_read limits w ≡ read f p → words_read limits w ≡ read g q → f ≡ g
  words_back f g p q d e = let z : read f p ≡ read g q = sym d ∙ e in cc

-- ---- the starts of the programs
module _ (w table : List ℕ) where
  listed-from : (l : List Program) (f : Program) (i : ℕ) (m : List ℕ) →
      ((j : ℕ) → get_or m j 0 ≡ start_at w table (i + j)) →
      take (length (starts_from l f)) m ≡ starts_from l f → StartsFrom w table l f i
  listed-from [] f i [] g e = absurd (let z : ◌≡◌ {A = ℕ} 0 1 = ap length e in omega arith)
  listed-from [] f i (x ∷ m) g e =
      let h : x ≡ f.start = cc in
      let k : i + 0 ≡ i = omega arith in
      ap (start_at w table) (sym k) ∙ sym (g 0) ∙ h
  listed-from (a ∷ l) f i [] g e = absurd (let z = ap length e in omega arith)
  listed-from (a ∷ l) f i (x ∷ m) g e =
      let h : x ≡ a.start = cc in
      let k : i + 0 ≡ i = omega arith in
      let n : take (length (starts_from l f)) m ≡ starts_from l f = cc in (
        ap (start_at w table) (sym k) ∙ sym (g 0) ∙ h,
        listed-from l f (suc i) m
            (λ j. g (suc j) ∙ (let s : i + suc j ≡ suc i + j = omega arith in ap (start_at w table) s)) n,
      )

  pub starts-listed : (f : File) (m : List ℕ) → ((j : ℕ) → get_or m j 0 ≡ start_at w table j) →
      take (length (starts_of f)) m ≡ starts_of f → StartsListed w table f
  starts-listed f m g e = record {
    starts = listed-from f.procedures f.main 0 m
        (λ j. g j ∙ (let s : j ≡ 0 + j = omega arith in ap (start_at w table) s)) e;
  }

-- what was lent for them is the list from `table_at` on
pub lent-starts : (w lent left rest : List ℕ) (f : File) → table_at w ≤ length lent → take (length (starts_of f)) left ≡ starts_of f →
    StartsListed w (take (table_at w) lent ++ (left ++ rest)) f
lent-starts w lent left rest f h e =
    let n : length (take (table_at w) lent) ≡ table_at w = length-take-le (table_at w) lent h in
    let k : length (starts_of f) ≤ length left = let z = length-take (length (starts_of f)) left in omega (arith, z, ap length e) in
    starts-listed w (take (table_at w) lent ++ (left ++ rest)) f (left ++ rest)
    (λ j. sym
    (ap (λ i. get_or (take (table_at w) lent ++ (left ++ rest)) (i + j) 0) (sym n)
    ∙ get_or-append-add (take (table_at w) lent) (left ++ rest) j 0))
    (take-append-le (length (starts_of f)) left rest k ∙ e)
