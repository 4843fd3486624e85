-- Refusals 1 to 7 and 16 on the runner's way, and what the words are that they let pass.
-- Assumes nothing.
--     refused-file_by           1 to 7 and 16
--     can-run_file, ran-file    the words of a file that they let pass; its run
--     run-of                    the definition's answer on bytes, with demand 2 and requests [1] and [6]
--     outside-run               19
use mathlib.Core.Path.{◌≡◌, refl, sym, ap, subst, ◌∙◌}
use mathlib.Core.Bool.{true, false}
use mathlib.Core.List.{List}
use Prim.Native.Nat.{ℕ, ◌+◌, ◌*◌, ◌/◌, ◌%◌}
use native.Mathlib.Omega.{arith}
use lib.ListN.{length, take, get_or, length-take}
use lib.Seq.{get_or-take}
use Rattle.language.specs.Syntax.{Command}
use Rattle.std.specs.Prelude.{Ok, Err}
use Rattle.rules.specs.Context as rules
use Rattle.rules.specs.Context.{within_ranges}
use Rattle.layout.specs.Bytes.{payload_at, payloads}
use Rattle.layout.specs.Reading.{Reading, read, fault}
use Rattle.layout.specs.File.{File, words_read, bytes_read, file_of}
use Rattle.layout.proofs.Settings.{in_ranges, out_of-ranges}
use Rattle.execution.specs.Lent.{Lent}
use Rattle.execution.specs.Ran.{body_place, run_of}
use Rattle.claims.proofs.Runner.{runner}
use Rattle.claims.proofs.AsBefore.{unchanged}
use Rattle.claims.proofs.Settings.{old-answers, run-raised}
use Rattle.context.specs.Contexts.{limits_of}
use Rattle.context.specs.declared.Context.{Context}
use Rattle.context.specs.declared.Refusal.{Refusal}
use Rattle.heads.specs.Stands.{FileInRoom, PartAt, resolved_part, BodiesAt, Runnable, CommandStands}
use Rattle.reader.specs.declared.Places.{Places}
use Rattle.reader.specs.Program.{Layout}
use Rattle.reader.proofs.Whole.{refused-file}
use Rattle.file.specs.Found.{FileRead}
use Rattle.file.proofs.Found.{ReadAt, found-read}
use Rattle.file.proofs.Files.{file-words}
use Rattle.runner.specs.Ran.{RunOf}
use Rattle.runner.specs.Running.{ran_at, refused_at, ran_by, RanFile, RanBy}
use Rattle.runner.specs.declared.Ran.{Ran}
use Rattle.runner.proofs.Procedures.{BodyStands, body-within, whole, main_body, body_of, start-of, count_of}

pub never : {A : Type 0} → ◌≡◌ {A = ℕ} 0 1 → A
never z = absurd (omega arith)

-- ---- refusals 1 to 7 and 16
module _ {context : Context} {bytes words table : List ℕ} {r : Layout} (f : FileRead bytes context r words table) where
  pub refused-file_by : (budget : ℕ) (m : Lent) {x : Refusal} {q : Ran} → r ≡ Err x →
      q ≡ refused_at x.number x.place →
      RanBy (bytes_read (limits_of context) bytes) budget m q m
  refused-file_by budget m {x} e h =
      let y = refused-file (bytes_read (limits_of context) bytes) x (sym e ∙ f.layout) in
      record { is = ap (λ z. ran_at z m) h ∙ ap (λ z. ran_by z budget m) (sym y) }

  module _ {s : Places} (e : r ≡ Ok s) where
    -- the words of the file
    abbrev file : List ℕ
    file = take (length bytes / 4) words

    -- the words in front of the room are the file's
    loaded : FileInRoom file words
    loaded =
        let w = file-words f e in
        let n = length-take (length bytes / 4) words in
        let i = w.inside in
        record {
          size = omega (arith, w.size, w.count);
          short = omega arith;
          same = λ i h. sym (get_or-take (length bytes / 4) words i 0 (omega arith));
        }

    found : ReadAt (words_read (limits_of context) file) s
    found = found-read (words_read (limits_of context) file) s (file-words f e).was_read

    -- the context of its main program
    abbrev Γ : rules.Context
    Γ = whole (limits_of context) found.file

    part : (c : Command) (at : ℕ) (x : BodyStands file Γ c at) →
        PartAt words table (resolved_part Γ c) at x.past
    part c at x = record {
      file = file;
      loaded = loaded;
      ends_of = (file-words f e).ends_of;
      levels = x.levels;
      stands = x.stands;
    }

    main : BodyStands file Γ found.file.main.command found.file.main.start
    main = main_body (limits_of context) file found.file found.end found.was_read

    -- word 0 of the room has the count of words
    counted : payload_at words 0 ≡ length file
    counted =
        let i = (body-within file Γ found.file.main.command found.file.main.start main).0 in
        ap (λ z. z % payloads) (loaded.same 0 (omega (arith, i)))
        ∙ count_of (limits_of context) file found.file found.end found.was_read (omega (arith, loaded.size))

    bodies : BodiesAt words table Γ (body_place found.file)
    bodies = record {
      known = λ n k h.
          let x = body_of (limits_of context) file found.file found.end found.was_read n k h in
          let known = (file-words f e).known found.file found.end (sym (file-words f e).of-file ∙ found.was_read) in
          record {
            start = ap (λ c. get_or table (c + 2 * (c / 32) + n) 0) counted
                ∙ start-of (limits_of context) file found.file found.end found.was_read known.starts n k h;
            past = x.past;
            there = part k.body (body_place found.file n) x;
          };
    }

    starts : found.file.main.start ≡ s.start
    starts = sym (ap (λ y. y.start) found.at)

    -- where the places that were found have it
    abbrev placed : Runnable words table found.file.main.command s.start main.past
    placed = record {
      context = Γ;
      body_at = body_place found.file;
      bodies = bodies;
      there = subst (λ at. PartAt words table (resolved_part Γ found.file.main.command) at main.past) starts
          (part found.file.main.command found.file.main.start main);
    }

    pub can-run_file : CommandStands words table s.start
    can-run_file = record { tree = found.file.main.command; past = main.past; there = placed }

    pub ran-file : {budget : ℕ} {m m' : Lent} {q : Ran} → RanFile words table s.start budget m q m' →
        RanBy (bytes_read (limits_of context) bytes) budget m q m'
    ran-file {budget} {m} h = record {
      is = h.is found.file main.past placed refl starts
          ∙ ap (λ z. ran_by z budget m) (sym found.was_read ∙ (file-words f e).of-file);
    }

-- ---- the definition's answer
by-reading : (x : Reading File) (limits : rules.Limits) (bytes : List ℕ) → file_of limits bytes ≡ x →
    (budget : ℕ) (m : Lent) →
    ran_by x budget m ≡ run_of limits bytes budget m
unfolding run_of
by-reading (read f p) limits bytes e budget m = sym (rw (e, run_of) refl)
by-reading (fault k p) limits bytes e budget m = sym (rw (e, run_of) refl)

-- what was said of the definition is promised
ran-of : (limits : rules.Limits) {bytes : List ℕ} {budget : ℕ} {m m' : Lent} {r : Ran} → ran_at r m' ≡ run_of limits bytes budget m →
    RunOf limits bytes budget m r m'
ran-of limits {bytes} {budget} {m} e = record {
  answer = ap (λ x. x.answer) e;
  steps = ap (λ x. x.steps) e;
  scalars-left = ap (λ x. x.store.scalars) e;
  values-left = ap (λ x. x.store.values) e;
  exact = runner limits bytes budget m;
  as_before = unchanged limits bytes budget m;
  old-answers = old-answers bytes;
  raised = run-raised limits bytes budget m;
}

pub run-of : {low : rules.Limits} (limits : rules.Limits) → low ≡ limits → within_ranges limits ≡ true → {bytes : List ℕ} {budget : ℕ}
    {m m' : Lent} {r : Ran} → RanBy (bytes_read low bytes) budget m r m' → RunOf limits bytes budget m r m'
run-of limits l w {bytes} {budget} {m} f =
    ran-of limits
    (f.is ∙ ap (λ z. ran_by (bytes_read z bytes) budget m) l ∙ ap (λ z. ran_by z budget m) (sym (in_ranges limits bytes w))
    ∙ by-reading (file_of limits bytes) limits bytes refl budget m)

-- 19
pub outside-run : (limits : rules.Limits) → within_ranges limits ≡ false → (bytes : List ℕ) (budget : ℕ) (m : Lent) {r : Ran} →
    r ≡ refused_at 19 0 → RunOf limits bytes budget m r m
outside-run limits w bytes budget m {r} e =
    ran-of limits
    (ap (λ z. ran_at z m) e ∙ ap (λ z. ran_by z budget m) (sym (out_of-ranges limits bytes w))
    ∙ by-reading (file_of limits bytes) limits bytes refl budget m)
