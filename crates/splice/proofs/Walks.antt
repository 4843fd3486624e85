-- One walk for the file and for the changed one.
-- Assumes nothing.
--     old_part, old-length, spliced-back
--                       numbers put back where others were put
--     part, part_count, part-words
--                       the words of a part of some bytes
--     back-loaded       that part of the file is loaded: the words in front are the file's
--     walk-count, walk-room, walked-here, file-walked, file-refused, file-first
--                       the words of the file, and room for their table; these are walked; so is the file alone
--     new-count, new-room, can-put_back, can-walk
--                       the same of the changed words; the file's are put back, and can be walked
--     new-read          the new command is one, read whole
--     old-if_read, old-walked
--                       the changed words passed, and the file's are put back: they pass with the levels of the new command; what is then known
--     old-here, old-not
--                       the old command is read with these levels, or the file is walked
--     new-loaded        the new command's words are loaded
use mathlib.Core.Path.{◌≡◌, refl, sym, ap, subst, ◌∙◌}
use Rattle.std.specs.Prelude.{Result, Ok, Err}
use mathlib.Core.Bool.{Bool, true, false}
use mathlib.Core.List.{List}
use mathlib.Core.Logic.{inl, inr}
use Prim.Native.Nat.{ℕ, ◌+◌, ◌*◌, ◌-◌, ◌/◌, ◌<◌, ◌≤◌}
use native.Mathlib.Omega.{arith}
use borrow.Rule.Slice.PartMut.{mid_of, put_mid}
use lib.ListN.{length, get_or, take, drop, length-drop}
use lib.Seq.{ext_get_or, get_or-take, get_or-drop, length-take-le}
use Rattle.laws.proofs.Bools.{clash}
use Rattle.layout.specs.Bytes.{words_of}
use Rattle.words.specs.Load.{Loaded}
use Rattle.words.proofs.Loading.{words-length, words-at}
use Rattle.words.proofs.Lengths.{good_length}
use Rattle.ends.proofs.Sizes.{lt_or_le}
use Rattle.context.specs.declared.Context.{Context}
use Rattle.context.specs.declared.Refusal.{Refusal}
use Rattle.reader.specs.declared.Places.{Places}
use Rattle.reader.specs.Program.{Layout}
use Rattle.file.specs.Found.{CallsRight, Called, TableRoom}
use Rattle.splice.specs.Splice.{spliced}
use Rattle.splice.specs.SimpleWords.{read_to}
use Rattle.splice.specs.Extent.{ExtentOf}
use Rattle.splice.specs.Walk.{CanWalk, CanPutBack, NewLoaded, NewRead, OldIfRead, WalkedFile, WalkedOld, WalkedFirst}
use Rattle.splice.specs.declared.extent.Extent.{Extent}
use Rattle.splice.specs.declared.walk.Walked.{Walked}
use Rattle.splice.proofs.Splice.{spliced-length, spliced-before, spliced-in, spliced-after, same_word, loaded_at, front-spliced}
use Rattle.splice.proofs.Again.{spliced-right}

-- ---- numbers and words put back
module _ (l : List ℕ) (at : ℕ) (m : List ℕ) (room : at + length m ≤ length l) where
  -- the numbers of l where m is put
  abbrev pub old_part : List ℕ
  old_part = take (length m) (drop at l)

  pub old-length : length old_part ≡ length m
  old-length = length-take-le (length m) (drop at l) (omega (arith, length-drop at l))

  abbrev changed : List ℕ
  changed = spliced l at m

  changed-length : length changed ≡ length l
  changed-length = spliced-length l at m room

  old-room : at + length old_part ≤ length changed
  old-room = omega (arith, old-length, changed-length)

  back_at : (i : ℕ) → get_or (spliced changed at old_part) i 0 ≡ get_or l i 0
  back_at i = elim (lt_or_le i at) [
    | inl k ↦ spliced-before changed at old_part old-room i k ∙ spliced-before l at m room i k
    | inr k ↦ elim (lt_or_le i (at + length m)) [
      | inl j ↦
          let e : at + (i - at) ≡ i = omega arith in
          ap (λ q. get_or (spliced changed at old_part) q 0) (sym e)
          ∙ spliced-in changed at old_part old-room (i - at) (omega (arith, old-length))
          ∙ get_or-take (length m) (drop at l) (i - at) 0 (omega arith) ∙ get_or-drop at l (i - at) 0 ∙ ap (λ q. get_or l q 0) e
      | inr j ↦ spliced-after changed at old_part old-room i (omega (arith, old-length)) ∙ spliced-after l at m room i j
    ]
  ]

  pub spliced-back : spliced changed at old_part ≡ l
  spliced-back =
      ext_get_or 0 (spliced changed at old_part) l (spliced-length changed at old_part old-room ∙ changed-length) (λ i h. back_at i)

module _ (bytes : List ℕ) (place to : ℕ) (order : place ≤ to) (within : to ≤ length bytes / 4) where
  abbrev pub part : List ℕ
  part = take (4 * to - 4 * place) (drop (4 * place) bytes)

  part_length : length part ≡ 4 * to - 4 * place
  part_length = length-take-le (4 * to - 4 * place) (drop (4 * place) bytes) (omega (arith, length-drop (4 * place) bytes))

  pub part_count : length (words_of part) ≡ to - place
  part_count = words-length part ∙ omega (arith, part_length)

  pub part-words : (i : ℕ) → i < to - place → get_or (words_of part) i 0 ≡ get_or (words_of bytes) (place + i) 0
  part-words i h =
      words-at part i (omega (arith, part_length))
      ∙ same_word part bytes i (place + i) (λ k s.
      get_or-take (4 * to - 4 * place) (drop (4 * place) bytes) (4 * i + k) 0 (omega arith)
      ∙ get_or-drop (4 * place) bytes (4 * i + k) 0
      ∙ (let e : 4 * place + (4 * i + k) ≡ 4 * (place + i) + k = omega arith in ap (λ q. get_or bytes q 0) e))
      ∙ sym (words-at bytes (place + i) (omega arith))

-- a part of the file is loaded
module _ {bytes words : List ℕ} {place to : ℕ} (c : CanPutBack bytes words place to) where
  abbrev old : List ℕ
  old = words_of (part bytes place to c.order c.within)

  old-count : length old ≡ to - place
  old-count = part_count bytes place to c.order c.within

  old-fits : place + length old ≤ length words
  old-fits = omega (arith, old-count, c.within, c.inside, c.order)

  abbrev back : List ℕ
  back = spliced words place old

  back-size : length (take (length bytes / 4) back) ≡ length bytes / 4
  back-size = length-take-le (length bytes / 4) back (omega (arith, spliced-length words place old old-fits, c.inside))

  back-word : (i : ℕ) → i < length bytes / 4 → get_or back i 0 ≡ get_or (words_of bytes) i 0
  back-word i h = elim (lt_or_le i place) [
    | inl k ↦ spliced-before words place old old-fits i k ∙ c.before i k
    | inr k ↦ elim (lt_or_le i to) [
      | inl j ↦
          let e : place + (i - place) ≡ i = omega arith in
          ap (λ q. get_or back q 0) (sym e) ∙ spliced-in words place old old-fits (i - place) (omega (arith, old-count))
          ∙ part-words bytes place to c.order c.within (i - place) (omega arith) ∙ ap (λ q. get_or (words_of bytes) q 0) e
      | inr j ↦ spliced-after words place old old-fits i (omega (arith, old-count, c.order)) ∙ c.behind i j h
    ]
  ]

  pub back-loaded : {after : List ℕ} {n : ℕ} →
      Loaded (take (4 * to - 4 * place) (drop (4 * place) bytes)) (mid_of place (length words - place) words) after n →
      take (length bytes / 4) (put_mid place (length words - place) words after) ≡ words_of bytes
  back-loaded l =
      ap (take (length bytes / 4)) (loaded_at words place l old-fits)
      ∙ ext_get_or 0 (take (length bytes / 4) back) (words_of bytes) (back-size ∙ sym (words-length bytes)) (λ i h.
      get_or-take (length bytes / 4) back i 0 (omega (arith, back-size)) ∙ back-word i (omega (arith, back-size)))

-- ---- the file by itself
module _ {bytes words table : List ℕ} (c : CanWalk bytes words table) where
  pub walk-count : length bytes / 4 ≡ length (take (length bytes / 4) words)
  walk-count = sym (ap length c.rooms.loaded ∙ words-length bytes)

  pub walk-room : TableRoom (take (length bytes / 4) words) table
  walk-room = record {
    size = omega (arith, good_length bytes c.good, walk-count);
    room = omega (arith, walk-count, c.rooms.inside, c.rooms.wide);
  }

  module _ {Γ : Context} {after : List ℕ} where
    walked-here : {r : Layout} → Called (take (length bytes / 4) words) Γ r after → Called (words_of bytes) Γ r after
    walked-here {r} h = subst (λ w. Called w Γ r after) c.rooms.loaded h

    pub file-walked : {s : Places} → Called (take (length bytes / 4) words) Γ (Ok s) after →
        WalkedFile Γ bytes (Ok (record { places = s; both = false })) after
    file-walked {s} h = record {
      called = walked-here h;
      alone = λ x e. let y : ◌≡◌ {A = Walked} (record { places = s; both = false }) x = cc in ap (λ z. z.both) (sym y);
    }

    pub file-refused : {x : Refusal} {r : Result Walked Refusal} → r ≡ Err x → Called (take (length bytes / 4) words) Γ (Err x) after →
        WalkedFile Γ bytes r after
    file-refused {x} e h =
        subst (λ r. WalkedFile Γ bytes r after) (sym e) (record { called = walked-here h; alone = λ y f. cc })

pub file-first : {Γ : Context} {bytes words table : List ℕ} {r : Result Walked Refusal} (place : ℕ) (new : List ℕ) →
    take (length bytes / 4) words ≡ words_of bytes → WalkedFile Γ bytes r table → WalkedFirst Γ bytes place new r words table
file-first place new e h = record {
  loaded = e;
  called = h.called;
  both = λ x e b. clash b (h.alone x e);
}

-- ---- the changed words stand there
module _ {bytes : List ℕ} {place : ℕ} {new words table : List ℕ} (c : NewLoaded bytes place new words table) where
  words-room : place + length (words_of new) ≤ length (words_of bytes)
  words-room = omega (arith, c.within, words-length new, words-length bytes)

  new-size : length (spliced (words_of bytes) place (words_of new)) ≡ length bytes / 4
  new-size = spliced-length (words_of bytes) place (words_of new) words-room ∙ words-length bytes

  pub new-count : length bytes / 4 ≡ length (take (length bytes / 4) words)
  new-count = sym (ap length c.loaded ∙ new-size)

  pub new-room : TableRoom (take (length bytes / 4) words) table
  new-room = record {
    size = omega (arith, good_length bytes c.good, new-count);
    room = omega (arith, new-count, c.inside, c.wide);
  }

  new-at : (i : ℕ) → i < length bytes / 4 → get_or words i 0 ≡ get_or (spliced (words_of bytes) place (words_of new)) i 0
  new-at i h = sym (get_or-take (length bytes / 4) words i 0 h) ∙ ap (λ w. get_or w i 0) c.loaded

  pub can-put_back : CanPutBack bytes words place (place + length new / 4)
  can-put_back = record {
    order = omega arith;
    within = c.within;
    inside = c.inside;
    before = λ i h.
        new-at i (omega (arith, c.within)) ∙ spliced-before (words_of bytes) place (words_of new) words-room i h;
    behind = λ i h k.
        new-at i k ∙ spliced-after (words_of bytes) place (words_of new) words-room i (omega (arith, h, words-length new));
  }

  module _ {after : List ℕ} (e : take (length bytes / 4) after ≡ words_of bytes) (n : length after ≡ length words) where
    pub can-walk : {behind : List ℕ} → length behind ≡ length table → CanWalk bytes after behind
    can-walk k = record {
      good = c.good;
      rooms = record { loaded = e; inside = omega (arith, n, c.inside); wide = omega (arith, n, k, c.wide) };
    }

-- ---- the changed words are walked
module _ {Γ : Context} {bytes : List ℕ} {place : ℕ} {new words table : List ℕ} (c : NewLoaded bytes place new words table) where
  pub new-read : {b : Bool} {x : Extent} →
      b ≡ read_to (take (length bytes / 4) words) Γ.depth place (place + length new / 4) → b ≡ true →
      ExtentOf (take (length bytes / 4) words) place Γ.depth x → NewRead Γ bytes place new words table x
  new-read {x = x} h e y = record {
    loaded = c;
    simple = subst (λ w. read_to w Γ.depth place (place + length new / 4) ≡ true) c.loaded (sym h ∙ e);
    extent = subst (λ w. ExtentOf w place Γ.depth x) c.loaded y;
  }

module _ {Γ : Context} {bytes : List ℕ} {place : ℕ} {new words table : List ℕ} {x : Extent}
    (c : NewRead Γ bytes place new words table x) {after : List ℕ} {r : Layout} {s : Places}
    (h : Called (take (length bytes / 4) words) Γ r after) (e : r ≡ Ok s) where
  abbrev v : List ℕ
  v = spliced (words_of bytes) place (words_of new)

  new-right : CallsRight v Γ s after
  new-right = subst (λ w. CallsRight w Γ s after) c.loaded.loaded (h.right s e)

  -- the old command in the place of the new one, which takes as many levels or more
  old-right : read_to (words_of bytes) x.levels place (place + length new / 4) ≡ true → CallsRight (words_of bytes) Γ s after
  old-right k =
      subst (λ w. CallsRight w Γ s after) back
      (spliced-right new-right old place (omega (arith, room, size, same)) Γ.depth
      (subst (λ n. read_to v Γ.depth place (place + n) ≡ true) (sym count) c.simple) c.extent
      (subst (λ w. read_to w x.levels place (place + length old) ≡ true) (sym back)
      (subst (λ n. read_to (words_of bytes) x.levels place (place + n) ≡ true) (sym count) k)))
    where
      room : place + length (words_of new) ≤ length (words_of bytes)
      room = words-room c.loaded

      old : List ℕ
      old = old_part (words_of bytes) place (words_of new) room

      size : length old ≡ length (words_of new)
      size = old-length (words_of bytes) place (words_of new) room

      same : length v ≡ length (words_of bytes)
      same = spliced-length (words_of bytes) place (words_of new) room

      count : length old ≡ length new / 4
      count = size ∙ words-length new

      back : spliced v place old ≡ words_of bytes
      back = spliced-back (words_of bytes) place (words_of new) room

  module _ {again : List ℕ} (loaded : take (length bytes / 4) again ≡ words_of bytes) where
    pub old-if_read : length again ≡ length words → length after ≡ length table →
        OldIfRead Γ bytes again s after place (place + length new / 4) x.levels
    old-if_read n k = record { walk = can-walk c.loaded loaded n k; right = old-right }

    pub old-walked : {q : Result Walked Refusal} {last : List ℕ} → WalkedOld Γ bytes s after q last → WalkedFirst Γ bytes place new q again last
    old-walked {q} {last} o = record {
      loaded = loaded;
      called = o.called;
      both = λ y f b. record {
        within = words-room c.loaded;
        simple = c.simple;
        right =
            subst (λ p. CallsRight v Γ p last) (sym (o.same_places y f b))
            (subst (CallsRight v Γ s) (sym (o.kept y f b)) new-right);
      };
    }

-- ---- whether the file is known to pass
module _ {Γ : Context} {bytes words : List ℕ} {s : Places} {table : List ℕ} {place to levels : ℕ}
    (c : OldIfRead Γ bytes words s table place to levels) where
  pub old-here : {b : Bool} → b ≡ read_to (take (length bytes / 4) words) levels place to → b ≡ true →
      WalkedOld Γ bytes s table (Ok (record { places = s; both = true })) table
  old-here h e = record {
    called = record {
      refused = λ x f. absurd (let z : ◌≡◌ {A = ℕ} 0 1 = cc in omega arith);
      right = λ t f.
          let y : s ≡ t = cc in
          subst (λ p. CallsRight (words_of bytes) Γ p table) y
          (c.right (subst (λ w. read_to w levels place to ≡ true) c.walk.rooms.loaded (sym h ∙ e)));
    };
    same_places = λ y f b. let z : ◌≡◌ {A = Walked} (record { places = s; both = true }) y = cc in ap (λ z. z.places) (sym z);
    kept = λ y f b. refl;
  }

  pub old-not : {r : Result Walked Refusal} {last : List ℕ} → WalkedFile Γ bytes r last → WalkedOld Γ bytes s table r last
  old-not h = record { called = h.called; same_places = λ x e b. clash b (h.alone x e); kept = λ x e b. clash b (h.alone x e) }

-- ---- the new command's words are loaded
module _ {bytes words table : List ℕ} (c : CanWalk bytes words table) {place : ℕ} {new : List ℕ} where
  pub new-loaded : {after : List ℕ} {n : ℕ} → place + length new / 4 ≤ length bytes / 4 →
      Loaded new (mid_of place (length words - place) words) after n →
      NewLoaded bytes place new (put_mid place (length words - place) words after) table
  new-loaded {after} within l =
      let k = words-length new in
      let inside = c.rooms.inside in
      let spliced-here = loaded_at words place l (omega (arith, within, k, inside)) in
      let size = ap length spliced-here ∙ spliced-length words place (words_of new) (omega (arith, within, k, inside)) in
      record {
        good = c.good;
        within = within;
        loaded =
            ap (take (length bytes / 4)) spliced-here
            ∙ front-spliced words place (words_of new) (length bytes / 4) (omega (arith, within, k)) inside
            ∙ ap (λ w. spliced w place (words_of new)) c.rooms.loaded;
        inside = omega (arith, size, inside);
        wide = omega (arith, size, c.rooms.wide);
      }
