-- The workbench call by its steps.
-- Assumes nothing.
--     refused-put, outside-put, few-put, unread-put
--                                            a refusal changes nothing; 19; 17; the file's own
--     same-put, refused-read                 under the same limits; what was not read
--     part-put, old-put, changed-unread      18: the new bytes are no words; the old command; the changed file is not read
--     done                                   the new command stands in the file
--     changed-words, changed-length, changed-file, new-simple
--                                            the changed file; the new command in it
--     finish-done                            the new command is one
--     settled, change-not, change-unread     with another table; the new command is none; the changed file is not read
--     replace-past, replace-part, replace-not
--                                            the old command is none, or of another length
--     word_count, ends-here, was-simple, changed-count, can_store, can-table, can-finish, can-change
--                                            what the next step asks for
--     changed-known                          what is known of the changed words
use mathlib.Core.Path.{◌≡◌, refl, sym, ap, subst, ◌∙◌}
use Rattle.std.specs.Prelude.{Ok, Err}
use mathlib.Core.Bool.{Bool, true, false, ◌&&◌}
use mathlib.Core.List.{List}
use Prim.Native.Nat.{ℕ, ◌+◌, ◌*◌, ◌-◌, ◌/◌, ◌%◌, ◌≤◌}
use native.Mathlib.Omega.{arith}
use borrow.Author.Tests.{eq-eqb, ne_eqb}
use lib.Dec.{eqb}
use borrow.Rule.Slice.PartMut.{mid_of, put_mid}
use lib.ListN.{length, get_or, take}
use Rattle.rules.specs.Context.{Limits, within_ranges, alone}
use Rattle.layout.specs.Bytes.{words_of}
use Rattle.layout.specs.Reading.{Reading, read, fault}
use Rattle.layout.specs.Read.{command}
use Rattle.layout.specs.File.{File, bad_length, bytes_read, words_read}
use Rattle.words.proofs.Loading.{words-length}
use Rattle.words.specs.Load.{Loaded}
use Rattle.words.proofs.Lengths.{good_length, good-file}
use Rattle.ends.specs.Ends.{EndsListed}
use Rattle.scan.specs.declared.for_mask.Fors.{Fors}
use Rattle.scan.specs.Steady.{file_context}
use Rattle.masks.specs.Masks.{command_at, stored}
use Rattle.masks.specs.WithMasks.{few_numbers, read_lent, stored_if}
use Rattle.masks.specs.Filled.{CanStore, Filled}
use Rattle.masks.proofs.FewNumbers.{good-whole, read-good, read-enough}
use Rattle.masks.proofs.LentNumbers.{outside-lent, few-lent, enough-lent}
use Rattle.masks.proofs.Stored.{filled_stored}
use Rattle.masks.proofs.Stored as stored-masks
use Rattle.context.specs.Contexts.{limits_of, refusal}
use Rattle.context.specs.declared.Context.{Context}
use Rattle.context.specs.declared.Refusal.{Refusal}
use Rattle.reader.specs.File.{places_of}
use Rattle.reader.specs.declared.Places.{Places}
use Rattle.reader.specs.Program.{Layout}
use Rattle.file.specs.Found.{CallsRight, TableRoom}
use Rattle.file.proofs.Found.{found-read}
use Rattle.splice.specs.Simple.{simple_to}
use Rattle.splice.specs.Splice.{spliced}
use Rattle.splice.specs.SimpleWords.{SimpleAt, read_to}
use Rattle.changed_file.specs.declared.old.Old.{Old}
use Rattle.replacement.specs.Put.{changed, replaceable, or_unread, read_put, answer_of, file_after, Replaced, PutDone}
use Rattle.scan.specs.ForsMask.{ForsFound}
use Rattle.splice.specs.Extent.{ExtentOf}
use Rattle.splice.specs.declared.extent.Extent.{Extent}
use Rattle.splice.proofs.Splice.{spliced-length, spliced-before, spliced-in, spliced-after, spliced-words, loaded_at, front-spliced}
use Rattle.splice.proofs.SimpleWords.{simple-past}
use Rattle.splice.proofs.Shift.{shifted-simple, simple-inside}
use Rattle.splice.proofs.ReadTo.{read-simple_to}
use Rattle.splice.proofs.Again.{spliced-right}
use Rattle.changed_file.specs.Changed.{LevelsFor, OldAt, ChangedKnown}
use Rattle.changed_file.proofs.Tables.{marked-right}
use Rattle.replacement.specs.Steps.{OldRead, CanReplace, Simple, CanChange, CanSettle, CanFinish}

and_none : (a : Bool) {b : Bool} → b ≡ false → (a && b) ≡ false
and_none true h = h
and_none false h = refl

-- under the same limits
pub same-put : {l k : Limits} {bytes lent new left numbers : List ℕ} {place : ℕ} {r : Replaced} → l ≡ k →
    PutDone l bytes lent place new r left numbers → PutDone k bytes lent place new r left numbers
same-put {bytes = bytes} {lent} {new} {left} {numbers} {place} {r} e d = subst (λ x. PutDone x bytes lent place new r left numbers) e d

-- what was not read
pub refused-read : (x : Reading File) (y : Refusal) → Err y ≡ places_of x → x ≡ fault y.number y.place
refused-read (read f p) y e = absurd (let z : ◌≡◌ {A = ℕ} 0 1 = cc in omega arith)
refused-read (fault n p) y e = cc

module _ (limits : Limits) (bytes lent : List ℕ) (place : ℕ) (new : List ℕ) where
  abbrev said : Reading File
  said = read_put limits bytes (length lent) place new

  pub refused-put : {n p : ℕ} {r : Replaced} → said ≡ fault n p → r ≡ Err (refusal n p) →
      PutDone limits bytes lent place new r bytes lent
  refused-put e h = record {
    answer = h ∙ sym (ap answer_of e);
    file = sym (ap (λ x. file_after x bytes (changed bytes place new)) e);
    masks = sym (ap (λ x. stored_if limits (words_of (changed bytes place new)) x lent) e);
  }

  -- what the file itself is refused for
  lent-put : {n p : ℕ} {r : Replaced} → read_lent limits bytes (length lent) ≡ fault n p → r ≡ Err (refusal n p) →
      PutDone limits bytes lent place new r bytes lent
  unfolding read_put
  lent-put h e = refused-put (rw h refl) e

  pub outside-put : {r : Replaced} → within_ranges limits ≡ false → r ≡ Err (refusal 19 0) →
      PutDone limits bytes lent place new r bytes lent
  outside-put h e = lent-put (outside-lent limits bytes (length lent) h) e

  pub few-put : {r : Replaced} → within_ranges limits ≡ true → few_numbers bytes (length lent) ≡ true → r ≡ Err (refusal 17 0) →
      PutDone limits bytes lent place new r bytes lent
  few-put w h e = lent-put (few-lent limits bytes (length lent) w h) e

  pub unread-put : {n p : ℕ} {r : Replaced} → within_ranges limits ≡ true → few_numbers bytes (length lent) ≡ false →
      bytes_read limits bytes ≡ fault n p → r ≡ Err (refusal n p) → PutDone limits bytes lent place new r bytes lent
  unread-put w h e = lent-put (enough-lent limits bytes (length lent) w h ∙ e)

  module _ (o : OldRead limits bytes (length lent)) where
    -- what comes of it, by the test of both commands
    abbrev tested : Bool → Reading File
    tested b = elim b [ true ↦ or_unread (bytes_read limits (changed bytes place new)) | false ↦ fault 18 0 ]

    said-by : said ≡ tested (replaceable limits bytes o.contents place new)
    unfolding read_put
    said-by = rw (enough-lent limits bytes (length lent) o.settable o.enough ∙ o.was_read) refl

    not-replaceable : {r : Replaced} → replaceable limits bytes o.contents place new ≡ false → r ≡ Err (refusal 18 0) →
        PutDone limits bytes lent place new r bytes lent
    not-replaceable h e = refused-put (said-by ∙ ap tested h) e

    abbrev old_simple : Bool
    old_simple = simple_to (command_at limits (words_of bytes) o.contents place) (place + length new / 4)

    abbrev new_simple : Bool
    new_simple = simple_to (command (alone limits) (words_of new) limits.depth 0) (length new / 4)

    pub part-put : {r : Replaced} → (length new % 4 ≡ 0 → ⊥) → r ≡ Err (refusal 18 0) →
        PutDone limits bytes lent place new r bytes lent
    unfolding replaceable
    part-put h = not-replaceable (ap (λ b. b && (old_simple && new_simple)) (ne_eqb (length new % 4) 0 h))

    pub old-put : {r : Replaced} → false ≡ old_simple → r ≡ Err (refusal 18 0) → PutDone limits bytes lent place new r bytes lent
    unfolding replaceable
    old-put h = not-replaceable (and_none (eqb (length new % 4) 0) (ap (λ b. b && new_simple) (sym h)))

    new-not : {r : Replaced} → new_simple ≡ false → r ≡ Err (refusal 18 0) → PutDone limits bytes lent place new r bytes lent
    unfolding replaceable
    new-not h = not-replaceable (and_none (eqb (length new % 4) 0) (and_none old_simple h))

    -- whatever is said of the commands
    pub changed-unread : {r : Replaced} {n p : ℕ} → bytes_read limits (changed bytes place new) ≡ fault n p → r ≡ Err (refusal 18 0) →
        PutDone limits bytes lent place new r bytes lent
    changed-unread {n = n} {p} h e = refused-put (said-by ∙ go (replaceable limits bytes o.contents place new)) e
      where
        go : (b : Bool) → tested b ≡ fault 18 0
        go true = ap or_unread h
        go false = refl

    replaceable-both : length new % 4 ≡ 0 → old_simple ≡ true → new_simple ≡ true → replaceable limits bytes o.contents place new ≡ true
    unfolding replaceable
    replaceable-both a b c = rw (eq-eqb (length new % 4) 0 a) (rw b c)

    pub done : {f : File} {p : ℕ} {left numbers : List ℕ} → replaceable limits bytes o.contents place new ≡ true →
        bytes_read limits (changed bytes place new) ≡ read f p → left ≡ changed bytes place new →
        numbers ≡ stored limits (words_of (changed bytes place new)) f lent →
        PutDone limits bytes lent place new (Ok tt) left numbers
    done {f} {p} h e a b =
        let x : said ≡ read f p = said-by ∙ ap tested h ∙ ap or_unread e in
        record {
          answer = sym (ap answer_of x);
          file = a ∙ sym (ap (λ y. file_after y bytes (changed bytes place new)) x);
          masks = b ∙ sym (ap (λ y. stored_if limits (words_of (changed bytes place new)) y lent) x);
        }

-- ---- the changed file
module _ {limits : Limits} {bytes : List ℕ} {n place : ℕ} {new : List ℕ} (s : Simple limits bytes n place new) where
  good : bad_length bytes ≡ false
  good = read-good limits bytes s.old.was_read

  pub changed-words : words_of (changed bytes place new) ≡ spliced (words_of bytes) place (words_of new)
  changed-words = spliced-words bytes place new s.within (good-whole bytes good) s.words

  pub changed-length : length (changed bytes place new) ≡ length bytes
  changed-length = spliced-length bytes (4 * place) new s.within

  -- its byte count is that of the file
  pub changed-file : bytes_read limits (changed bytes place new) ≡ words_read limits (words_of (changed bytes place new))
  changed-file = good-file limits (changed bytes place new) (same_count (changed bytes place new) bytes changed-length ∙ good)
    where
      same_count : (l m : List ℕ) → length l ≡ length m → bad_length l ≡ bad_length m
      same_count l m e = rw e refl

  words-room : place + length (words_of new) ≤ length (words_of bytes)
  words-room = omega (arith, s.within, s.words, words-length new, words-length bytes)

  -- the new command, read by itself and in the changed file
  pub new-simple : {w : List ℕ} (f : File) → w ≡ words_of (changed bytes place new) →
      simple_to (command (alone limits) (words_of new) limits.depth 0) (length new / 4)
      ≡ simple_to (command_at limits w f place) (place + length new / 4)
  new-simple {w} f e =
      subst (λ k. simple_to (command (alone limits) (words_of new) limits.depth 0) k ≡ simple_to (command_at limits w f place) (place + k))
      (words-length new)
      (shifted-simple (words_of new) w place
      (omega (arith, ap length (e ∙ changed-words), spliced-length (words_of bytes) place (words_of new) words-room, words-room))
      (λ i h. rw (e ∙ changed-words) (spliced-in (words_of bytes) place (words_of new) words-room i h))
      (alone limits) (file_context limits f) limits.depth)

-- ---- the changed file was read
module _ {limits : Limits} {bytes : List ℕ} (lent : List ℕ) {place : ℕ} {new w table : List ℕ}
    (c : CanFinish limits bytes (length lent) place new w table) where
  pub can_store : CanStore w table lent
  can_store =
      let s = c.simple in
      let k = read-enough limits bytes s.old.was_read (length lent) s.old.enough in
      stored-masks.can_store w table limits c.contents c.listed c.masked
      (omega (arith, k, ap length c.loaded, words-length (changed bytes place new), words-length bytes, changed-length s))

  pub finish-done : {left numbers : List ℕ} → Filled w table lent numbers → left ≡ changed bytes place new →
      PutDone limits bytes lent place new (Ok tt) left numbers
  finish-done {numbers = numbers} f a =
      let s = c.simple in
      let o = s.old in
      let m = filled_stored w table limits c.contents c.listed c.masked can_store.room f in
      done limits bytes lent place new o (replaceable-both limits bytes lent place new o s.words s.simple c.new-simple)
      (changed-file s ∙ ap (words_read limits) (sym c.loaded) ∙ c.was_read) a
      (subst (λ k. numbers ≡ stored limits k c.contents lent) c.loaded m)

-- ---- the words of the file are changed
module _ (Γ : Context) {bytes : List ℕ} (lent : List ℕ) {place : ℕ} {new w table : List ℕ}
    (c : CanChange (limits_of Γ) bytes (length lent) place new w table) where
  pub can-table : TableRoom w table
  can-table =
      let s = c.simple in
      let n : length w ≡ length bytes / 4 = ap length c.loaded ∙ words-length (changed bytes place new) ∙ ap (λ k. k / 4) (changed-length s) in
      record { size = omega (arith, n, good_length bytes (good s)); room = c.wide }

  -- whether the new command is one; b is what was returned for it
  new_is : {b : Bool} → b ≡ read_to w Γ.depth place (place + length new / 4) →
      simple_to (command (alone (limits_of Γ)) (words_of new) Γ.depth 0) (length new / 4) ≡ b
  new_is h =
      let f = c.simple.old.contents in
      new-simple c.simple f c.loaded
      ∙ sym (h ∙ read-simple_to w (file_context (limits_of Γ) f) Γ.depth place (place + length new / 4))

  -- the table is another
  pub settled : {after : List ℕ} → length after ≡ length table → CanChange (limits_of Γ) bytes (length lent) place new w after
  settled n = record { simple = c.simple; loaded = c.loaded; wide = omega (arith, c.wide, n) }

  pub change-not : {b : Bool} {r : Replaced} → b ≡ read_to w Γ.depth place (place + length new / 4) → b ≡ false →
      r ≡ Err (refusal 18 0) → PutDone (limits_of Γ) bytes lent place new r bytes lent
  change-not h e = new-not (limits_of Γ) bytes lent place new c.simple.old (new_is h ∙ e)

-- ---- refusals 2 to 7 and 16 of them are known
module _ {Γ : Context} {bytes : List ℕ} (lent : List ℕ) {place : ℕ} {new w table : List ℕ} {r : Layout}
    (c : CanSettle Γ bytes (length lent) place new w table r) where
  pub can-finish : {s : Places} → r ≡ Ok s → CanFinish (limits_of Γ) bytes (length lent) place new w table
  can-finish {s} e =
      let t = c.remarked in
      let x = found-read (words_read (limits_of Γ) w) s (sym e ∙ t.layout) in
      record {
        simple = c.change.simple;
        loaded = c.change.loaded;
        new-simple = new_is Γ lent c.change (sym c.new-read);
        contents = x.file;
        end = x.end;
        was_read = x.was_read;
        listed = t.listed s e;
        masked = t.masked x.file x.end x.was_read;
      }

  pub change-unread : {x : Refusal} {q : Replaced} → r ≡ Err x → q ≡ Err (refusal 18 0) →
      PutDone (limits_of Γ) bytes lent place new q bytes lent
  change-unread {x} e h =
      let s = c.change.simple in
      let f = refused-read (words_read (limits_of Γ) w) x (sym e ∙ c.remarked.layout) in
      changed-unread (limits_of Γ) bytes lent place new s.old
      (changed-file s ∙ ap (words_read (limits_of Γ)) (sym c.change.loaded) ∙ f) h

-- ---- the file was read
module _ {Γ : Context} {bytes : List ℕ} (lent : List ℕ) {words table : List ℕ} {s : Places} {fors : Fors}
    {both : Bool} {place : ℕ} {new : List ℕ} (c : CanReplace Γ bytes (length lent) place new words table s both fors) where
  abbrev limits : Limits
  limits = limits_of Γ

  count : length (take (length bytes / 4) words) ≡ length bytes / 4
  count = ap length c.rooms.loaded ∙ words-length bytes

  pub word_count : length bytes / 4 ≡ length (take (length bytes / 4) words)
  word_count = sym count

  pub ends-here : EndsListed (take (length bytes / 4) words) table
  ends-here = subst (λ w. EndsListed w table) (sym c.rooms.loaded) c.marked.listed

  -- whether the old command is one
  old-is : {to : ℕ} {b : Bool} → SimpleAt (take (length bytes / 4) words) table place to b →
      b ≡ simple_to (command_at limits (words_of bytes) c.old.contents place) to
  old-is {to} {b} h =
      (subst (λ w. SimpleAt w table place to b) c.rooms.loaded h).is limits c.old.contents c.masked

  pub replace-past : {r : Replaced} → length bytes / 4 ≤ place → r ≡ Err (refusal 18 0) → PutDone limits bytes lent place new r bytes lent
  replace-past h =
      old-put limits bytes lent place new c.old (old-is (simple-past place (place + length new / 4) (omega (arith, h, count))))

  pub replace-part : {r : Replaced} → (length new % 4 ≡ 0 → ⊥) → r ≡ Err (refusal 18 0) → PutDone limits bytes lent place new r bytes lent
  replace-part h = part-put limits bytes lent place new c.old h

  pub replace-not : {b : Bool} {r : Replaced} → SimpleAt (take (length bytes / 4) words) table place (place + length new / 4) b → b ≡ false →
      r ≡ Err (refusal 18 0) → PutDone limits bytes lent place new r bytes lent
  replace-not h e = old-put limits bytes lent place new c.old (sym e ∙ old-is h)

  module _ {b : Bool} (h : SimpleAt (take (length bytes / 4) words) table place (place + length new / 4) b) (e : b ≡ true)
      (whole : length new % 4 ≡ 0) where
    simple : simple_to (command_at limits (words_of bytes) c.old.contents place) (place + length new / 4) ≡ true
    simple = sym (old-is h) ∙ e

    -- the old command ends inside the file
    words_inside : place + length new / 4 ≤ length (words_of bytes)
    words_inside = simple-inside (words_of bytes) limits c.old.contents place simple

    pub was-simple : Simple limits bytes (length lent) place new
    was-simple = record {
      old = c.old;
      words = whole;
      within = omega (arith, words_inside, whole, words-length bytes);
      simple = simple;
    }

    module _ {after : List ℕ} {n : ℕ} (l : Loaded new (mid_of place (length words - place) words) after n) where
      abbrev words-after : List ℕ
      words-after = take (length bytes / 4) (put_mid place (length words - place) words after)

      changed-there : words-after ≡ words_of (changed bytes place new)
      changed-there =
          let k = words-length new in
          ap (take (length bytes / 4)) (loaded_at words place l (omega (arith, words_inside, words-length bytes, k, c.rooms.inside)))
          ∙ front-spliced words place (words_of new) (length bytes / 4) (omega (arith, words_inside, words-length bytes, k)) c.rooms.inside
          ∙ ap (λ z. spliced z place (words_of new)) c.rooms.loaded ∙ sym (changed-words was-simple)

      pub changed-count : length bytes / 4 ≡ length words-after
      changed-count =
          sym (ap length changed-there ∙ words-length (changed bytes place new) ∙ ap (λ i. i / 4) (changed-length was-simple))

      pub can-change : CanChange limits bytes (length lent) place new words-after table
      can-change =
          record { simple = was-simple; loaded = changed-there; wide = omega (arith, changed-count, c.rooms.inside, c.rooms.wide) }

      words-new : words-after ≡ spliced (words_of bytes) place (words_of new)
      words-new = changed-there ∙ changed-words was-simple

      -- the old command, by a walk
      was-walked : read_to (words_of bytes) limits.depth place (place + length new / 4) ≡ true
      was-walked =
          read-simple_to (words_of bytes) (file_context limits c.old.contents) limits.depth place (place + length new / 4) ∙ simple

      -- with so many levels as the old command takes
      old-right : {x : Extent} → ExtentOf (take (length bytes / 4) words) place limits.depth x →
          read_to (spliced (words_of bytes) place (words_of new)) x.levels place (place + length new / 4) ≡ true →
          CallsRight (spliced (words_of bytes) place (words_of new)) Γ s table
      old-right {x} y =
          subst (λ n. read_to (spliced (words_of bytes) place (words_of new)) x.levels place (place + n) ≡ true →
          CallsRight (spliced (words_of bytes) place (words_of new)) Γ s table) (words-length new)
          (spliced-right (marked-right c.marked) (words_of new) place (words-room was-simple) limits.depth
          (subst (λ n. read_to (words_of bytes) limits.depth place (place + n) ≡ true) (sym (words-length new)) was-walked)
          (subst (λ w. ExtentOf w place limits.depth x) c.rooms.loaded y))

      new-right : {d : ℕ} → LevelsFor (take (length bytes / 4) words) place limits.depth both d →
          read_to (spliced (words_of bytes) place (words_of new)) d place (place + length new / 4) ≡ true →
          CallsRight (spliced (words_of bytes) place (words_of new)) Γ s table
      new-right {d} l h = go both refl
        where
          go : (b : Bool) → both ≡ b → CallsRight (spliced (words_of bytes) place (words_of new)) Γ s table
          go true e = (c.new-right e).right
          go false e =
              let x = l.levels e in
              old-right x.1
              (subst (λ n. read_to (spliced (words_of bytes) place (words_of new)) n place (place + length new / 4) ≡ true) x.2 h)

      -- o is what is kept of the old command
      pub changed-known : {o : Old} → OldAt (take (length bytes / 4) words) place limits.depth both fors o →
          ChangedKnown Γ words-after s table place (place + length new / 4) o
      changed-known {o} y = record {
        words = words_of bytes;
        marked = c.marked;
        was_read = c.was_read;
        fors_of = subst (ForsFound (words_of bytes)) (sym y.same-fors) c.fors_of;
        first = y.first ∙ ap (λ w. get_or w place 0) c.rooms.loaded;
        simple = was-walked;
        size = sym changed-count ∙ sym (words-length bytes);
        before = λ i l. rw words-new (spliced-before (words_of bytes) place (words_of new) (words-room was-simple) i l);
        behind = λ i l.
            rw words-new (spliced-after (words_of bytes) place (words_of new) (words-room was-simple) i (omega (arith, l, words-length new)));
        room = can-table Γ lent can-change;
        few = y.levels-for.few;
        known = λ b.
            let k = sym y.known ∙ b in
            subst (λ w. read_to w o.levels place (place + length new / 4) ≡ true) (sym words-new)
            (subst (λ n. read_to (spliced (words_of bytes) place (words_of new)) n place (place + length new / 4) ≡ true)
            (sym (y.levels-for.all k)) (c.new-right k).simple);
        right = subst (λ w. read_to w o.levels place (place + length new / 4) ≡ true → CallsRight w Γ s table) (sym words-new)
            (new-right y.levels-for);
      }
