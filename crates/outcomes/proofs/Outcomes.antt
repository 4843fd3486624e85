-- Outcomes, from words and from bytes.
-- Assumes nothing.
--     outcome_from, judged-outcome    8 and 9: the verdict of a file's programs, with the places of the main program
--     none_of, none-stored           no masks are lent
--     can_store, stored_of, stored-count, stored-done
--                                    masks are stored
--     can-load                       room for so many words
--     found-judge, found-outcome, refused-done
--                                    refusals 1 to 7 and 16
use mathlib.Core.Path.{◌≡◌, refl, sym, ◌∙◌, ap, ap₂, subst}
use mathlib.Core.Bool.{Bool, true, false, cond}
use mathlib.Core.List.{List}
use Prim.Native.Nat.{ℕ, ◌+◌, ◌*◌, ◌/◌, ◌<◌, ◌≤◌}
use native.Mathlib.Omega.{arith}
use borrow.Author.Tests.{lt-ltb, le-ltb}
use lib.Dec.{ltb}
use lib.ListN.{length, take}
use lib.Seq.{length-take-le}
use Rattle.std.specs.Prelude.{Ok, Err, IsErrAnd}
use Rattle.rules.specs.Context.{Limits}
use Rattle.rules.specs.Judge as judge
use Rattle.layout.specs.Bytes.{words_of, word_count}
use Rattle.layout.specs.Reading.{Reading, read, fault}
use Rattle.layout.specs.File.{File, bytes_read, words_read}
use Rattle.layout.specs.Verdict.{judged}
use Rattle.context.specs.Contexts.{limits_of}
use Rattle.context.specs.declared.Context.{Context}
use Rattle.context.specs.declared.Refusal.{Refusal}
use Rattle.reader.specs.File.{places_of}
use Rattle.reader.specs.Program.{Layout, places}
use Rattle.reader.specs.declared.Places.{Places}
use Rattle.reader.proofs.Walks.{exit}
use Rattle.reader.proofs.Whole.{refused-file}
use Rattle.file.specs.Found.{CanLoad, FileRead}
use Rattle.file.proofs.Found.{found-read}
use Rattle.file.proofs.Files.{file-words}
use Rattle.masks.specs.WithMasks.{stored_if}
use Rattle.masks.specs.Filled.{CanStore, Filled, MasksOf}
use Rattle.ends.proofs.Table.{ends-listed}
use Rattle.masks.proofs.Stored.{filled_masks, filled_stored}
use Rattle.masks.proofs.Stored as stored
use Rattle.goals.specs.Goals.{Answer, judged_of}
use Rattle.outcomes.specs.Outcome.{Outcome, with_places, outcome_of, stored_where, WordsDone, OutcomeDone, WithinLimits, FitsRoom}
use Rattle.outcomes.specs.Programs.{judged_file, CanJudgeFile}

-- ---- refusals 8 and 9
-- what the code makes of programs judged
abbrev pub outcome_from : Answer → Places → Outcome
outcome_from (Ok judged) s = Ok (record { count = judged.count; places = s })
outcome_from (Err x) s = Err x

with-places : (v : judge.Verdict) (end : ℕ) (s : Places) → outcome_from (judged_of v end) s ≡ with_places v s
with-places (judge.accepted n) end s = refl
with-places (judge.refused k i) end s = refl

file-outcome : (limits : Limits) (x : Reading File) (s : Places) → Ok s ≡ places_of x →
    outcome_from (judged_file limits x) s ≡ outcome_of limits x
file-outcome limits (read f p) s e =
    let k : s ≡ places f.main.start f.main.pre_at f.main.post_at f.main.evidence_at p = cc in
    with-places (judged limits (read f p)) p s ∙ ap (λ z. with_places (judged limits (read f p)) z) k
file-outcome limits (fault n p) s e = absurd (let z : ◌≡◌ {A = ℕ} 0 1 = cc in omega arith)

pub judged-outcome : {w ends : List ℕ} (context : Context) {s : Places} → CanJudgeFile w ends context s → (r q : Answer) →
    r ≡ judged_file (limits_of context) (words_read (limits_of context) w) → r ≡ q →
    outcome_from q s ≡ outcome_of (limits_of context) (words_read (limits_of context) w)
judged-outcome {w} context {s} h r q j e =
    ap (λ (z : Answer). outcome_from z s) (sym e ∙ j) ∙ file-outcome (limits_of context) (words_read (limits_of context) w) s h.found

-- ---- masks
-- no masks
pub none_of : {file ends : List ℕ} (l : List ℕ) → MasksOf file ends (take 0 l)
none_of l = record { mask = λ at h. absurd (omega arith) }

module _ {w table : List ℕ} {context : Context} {s : Places} (c : CanJudgeFile w table context s) (lent : List ℕ) where
  abbrev was : words_read (limits_of context) w ≡ read c.programs.contents c.programs.end
  was = c.programs.was_read

  -- too few numbers are lent
  pub none-stored : {r : Outcome} → length lent < length w → r ≡ outcome_of (limits_of context) (words_read (limits_of context) w) →
      WordsDone (limits_of context) w lent r lent
  none-stored h e = record { outcome = e; masks = rw (lt-ltb (length lent) (length w) h) refl }

  module _ (room : length w ≤ length lent) where
    pub can_store : CanStore w table lent
    can_store = stored.can_store w table (limits_of context) c.programs.contents (ends-listed c.programs.ends_of) c.programs.known.masked room

    module _ {left : List ℕ} (f : Filled w table lent left) where
      pub stored_of : MasksOf w table (take (length w) left)
      stored_of = filled_masks c.programs.ends_of room f

      pub stored-count : length w ≡ length (take (length w) left)
      stored-count = sym (length-take-le (length w) left (omega (arith, room, f.same_length)))

      pub stored-done : {r : Outcome} → r ≡ outcome_of (limits_of context) (words_read (limits_of context) w) →
          WordsDone (limits_of context) w lent r left
      stored-done e = record {
        outcome = e;
        masks =
            filled_stored w table (limits_of context) c.programs.contents (ends-listed c.programs.ends_of) c.programs.known.masked room f
            ∙ sym (rw (le-ltb (length lent) (length w) room) (ap (λ x. stored_if (limits_of context) w x lent) was));
      }

-- ---- refusals 1 to 7 and 16
-- room for so many words
pub can-load : {bytes words table : List ℕ} {n : ℕ} {context : Context} → FitsRoom bytes n context → length words ≡ n →
    n + 2 * (n / 32) + 49 ≤ length table → CanLoad bytes words table
can-load {table = table} h e r = record {
  fits = λ g. let f = h.fits g in omega arith;
  wide = subst (λ k. k + 2 * (k / 32) + 49 ≤ length table) (sym e) r;
}

module _ {context : Context} {bytes words table : List ℕ} {r : Layout} (f : FileRead bytes context r words table) where
  pub found-judge : {s : Places} → WithinLimits context → r ≡ Ok s →
      CanJudgeFile (take (length bytes / 4) words) table context s
  found-judge {s} l e =
      let w = file-words f e in
      let g = found-read (words_read (limits_of context) (take (length bytes / 4) words)) s w.was_read in
      record {
        programs = record {
          size = w.size;
          within = l;
          ends_of = w.ends_of;
          contents = g.file;
          end = g.end;
          was_read = g.was_read;
          known = w.known g.file g.end (sym w.of-file ∙ g.was_read);
        };
        found = w.was_read;
      }

  pub found-outcome : {s : Places} {q : Outcome} {lent left : List ℕ} → r ≡ Ok s →
      WordsDone (limits_of context) (take (length bytes / 4) words) lent q left → OutcomeDone (limits_of context) bytes lent q left
  found-outcome {s} {lent = lent} {left} e h =
      let same = (file-words f e).of-file in
      record {
        outcome = h.outcome ∙ ap (outcome_of (limits_of context)) same;
        masks =
            h.masks
            ∙ ap₂ (λ w x. stored_where (limits_of context) w x lent) (f.loaded s e) same;
      }

  refused-outcome : {x : Refusal} (lent : List ℕ) → r ≡ Err x → OutcomeDone (limits_of context) bytes lent (Err x) lent
  refused-outcome {x} lent e =
      let h = refused-file (bytes_read (limits_of context) bytes) x (sym e ∙ f.layout) in
      record {
        outcome = sym (ap (outcome_of (limits_of context)) h);
        masks = sym (ap (λ y. stored_where (limits_of context) (words_of bytes) y lent) h ∙ same (ltb (length lent) (word_count (words_of bytes))));
      }
    where
      same : (b : Bool) → cond b lent lent ≡ lent
      same true = refl
      same false = refl

  -- what the exit of a `?` returns
  pub refused-done : {x : Refusal} {q : Outcome} (lent : List ℕ) → r ≡ Err x → IsErrAnd q (λ y. y ≡ x) →
      OutcomeDone (limits_of context) bytes lent q lent
  refused-done lent e h =
      subst (λ z. OutcomeDone (limits_of context) bytes lent z lent) (sym (exit h refl)) (refused-outcome lent e)
