-- Refusals 2 to 7 and 16 on words, and with 1 on bytes, by what the code finds.
-- Assumes nothing.
--     table-made, starts-moved                        the table is filled by its three steps; the starts in it
--     no-fault, some-fault                            the answers of the scans for refusals 16 and 7
--     found-words, refused-found                      2 to 6 let the words pass; 2 to 6
--     calls-right, wrong_called                       16 lets the words pass; 16
--     refused-tabled                                  2 to 6 and 16
--     steady-tabled, unsteady-tabled                  7 lets the words pass; 7
--     bad-read, loaded-room, loaded-all, loaded-file  1; the words that were loaded
--     Words, file-words                               the words of a file that was read
use mathlib.Core.Path.{◌≡◌, refl, sym, ◌∙◌, ap, ap₂, subst}
use mathlib.Core.Bool.{true, false}
use mathlib.Core.List.{List, [], ◌∷◌, ◌++◌}
use mathlib.Core.Option.{Option, none, some}
use Prim.Native.Nat.{ℕ, suc, ◌+◌, ◌*◌, ◌/◌, ◌≤◌}
use native.Mathlib.Omega.{arith}
use lib.ListN.{length, take}
use Rattle.std.specs.Prelude.{Some, None, Ok, Err}
use Rattle.std.specs.Result.{IsErrAnd}
use Rattle.layout.specs.Bytes.{words_of, word_count}
use Rattle.layout.specs.Reading.{Reading, read, fault, first_place}
use Rattle.layout.specs.Program.{Program}
use Rattle.layout.specs.Call.{wrong_call}
use Rattle.layout.specs.File.{File, bad_length, words_read, bytes_read}
use Rattle.layout.specs.FileWords.{FileStands}
use Rattle.words.specs.Load.{Loaded}
use Rattle.words.proofs.Loading.{words-length, loaded-words}
use Rattle.words.proofs.Lengths.{bad-file, good-file, good_length, AllLoaded, all-loaded}
use Rattle.ends.specs.Ends.{EndsOf}
use Rattle.ends.specs.Sizes.{Filled}
use Rattle.ends.specs.Blocks.{table_at, Blocked}
use Rattle.ends.specs.Procedures.{start_at}
use Rattle.ends.proofs.Table.{table-ends, ends-listed}
use Rattle.context.specs.Contexts.{limits_of, refusal}
use Rattle.reader.specs.Program.{Layout}
use Rattle.reader.specs.File.{places_of, Located, read_of}
use Rattle.context.specs.declared.Context.{Context}
use Rattle.context.specs.declared.Refusal.{Refusal}
use Rattle.reader.specs.declared.Places.{Places}
use Rattle.reader.proofs.Walks.{exit}
use Rattle.scan.specs.Programs.{StartsFrom, StartsListed, Masked}
use Rattle.scan.specs.Fault.{fault_place}
use Rattle.scan.specs.Calls.{wrong_at}
use Rattle.scan.specs.Steady.{MaskedFile, FirstFound}
use Rattle.scan.proofs.ProcedureMasks.{made-moved}
use Rattle.scan.proofs.WrongCalls.{wrong_calls}
use Rattle.scan.proofs.Procedures.{procedures-known, masks-known}
use Rattle.file.specs.Found.{TableRoom, Found, CallsRight, Called, TableMade, KnownAt, Tabled, CanLoad, FileRead}
use Rattle.file.proofs.Found.{ReadAt, found-read, read-file, words_back, lent-starts}
use Rattle.file.proofs.Found.{words-steady, words-unsteady, words-wrong, words-refused}

-- ---- the table
-- the three steps that fill it, one after the other
pub table-made : {w before ends masked after : List ℕ} → Filled w before ends → Masked w ends masked → Blocked w masked after →
    TableMade w before after
table-made {w} {before} {ends} {masked} {after} f m b = record {
  ends_of = table-ends (λ at h. m.kept at (omega arith) ∙ f.ended at h) b;
  starts = λ i h.
      b.rest-kept (table_at w + i) (omega arith) ∙ m.kept (table_at w + i) (omega arith)
      ∙ f.kept (table_at w + i) (omega arith);
  made = λ i h.
      made-moved (record {
        ends = b.kept;
        starts = b.rest-kept (table_at w + i) (omega arith);
        masks = λ j k.
            ap₂ (λ x y. x + 4294967296 * y) (b.rest-kept (table_at w + 17 + 2 * j) (omega arith))
            (b.rest-kept (table_at w + 17 + 2 * j + 1) (omega arith));
      }) (m.made i h);
}

-- the starts in a table that has them where it had them
starts_from : (w before after : List ℕ) → ((i : ℕ) → i ≤ 16 → start_at w after i ≡ start_at w before i) → (l : List Program)
    (f : Program) (i : ℕ) → i + length l ≤ 16 → StartsFrom w before l f i → StartsFrom w after l f i
starts_from w before after h [] f i n s = h i (omega arith) ∙ s
starts_from w before after h (g ∷ l) f i n s =
    (h i (omega arith) ∙ s.0, starts_from w before after h l f (suc i) (omega arith) s.1)

pub starts-moved : (w before after : List ℕ) → ((i : ℕ) → i ≤ 16 → start_at w after i ≡ start_at w before i) → (f : File) →
    length f.procedures ≤ 16 → StartsListed w before f → StartsListed w after f
starts-moved w before after h f few s = record {
  starts = starts_from w before after h f.procedures f.main 0 (omega arith) s.starts;
}

-- ---- refusals 2 to 7 and 16
-- a refusal has no places
not_found : {A : Type 0} {x : Refusal} {s : Places} → Err x ≡ Ok s → A
not_found e = absurd (let z : ◌≡◌ {A = ℕ} 0 1 = cc in omega arith)

not-read : {A : Type 0} {x : Reading File} {n p : ℕ} {f : File} {q : ℕ} → x ≡ fault n p → x ≡ read f q → A
not-read {x = x} e h = absurd (let z : ◌≡◌ {A = ℕ} 0 1 = cc in omega arith)

-- the answer of a scan for the first fault
pub no-fault : (o : Option ℕ) → None ≡ fault_place o → o ≡ none
no-fault none e = refl
no-fault (some at) e = absurd (let z : ◌≡◌ {A = ℕ} 0 1 = cc in omega arith)

pub some-fault : (o : Option ℕ) (at : ℕ) → Some at ≡ fault_place o → o ≡ some at
some-fault none at e = absurd (let z : ◌≡◌ {A = ℕ} 0 1 = cc in omega arith)
some-fault (some p) at e = cc

-- what is left of the room that was lent to the reader for the starts
pub found-words : {Γ : Context} {w left start : List ℕ} {s : Places} (lent rest : List ℕ) → table_at w ≤ length lent →
    Located (read_of (limits_of Γ) w) start left (Ok s) → Found w Γ s (take (table_at w) lent ++ (left ++ rest))
found-words {Γ} {w} {left} lent rest h x = record {
  found = x.places;
  starts = λ f p z. lent-starts w lent left rest f h (x.starts f p z);
}

-- 16 lets the words pass
pub calls-right : {Γ : Context} {w before : List ℕ} {s : Places} → Found w Γ s before →
    None ≡ fault_place (first_place (wrong_at w before) (word_count w) 0) → Called w Γ (Ok s) before
calls-right {Γ} {w} {before} f e = record {
  refused = λ x z. not_found (sym z);
  right = λ t z. subst (λ (s : Places). CallsRight w Γ s before) (let y = z in cc) (record { found = f; right = no-fault _ e });
}

module _ {Γ : Context} {w : List ℕ} where
  -- a refusal among 2 to 6 and 16
  refused-called : {n at : ℕ} {table : List ℕ} → words_read (limits_of Γ) w ≡ fault n at →
      Called w Γ (Err (refusal n at)) table
  refused-called {n} {at} e = record {
    refused = λ x z. (let y : refusal n at ≡ x = cc in e ∙ ap (λ (q : Refusal). fault q.number q.place) y);
    right = λ s z. not_found z;
  }

  -- a refusal by what the code finds
  refused-by : {n at : ℕ} {table : List ℕ} → words_read (limits_of Γ) w ≡ fault n at →
      Tabled w Γ (Err (refusal n at)) table
  refused-by e = record {
    layout = sym (ap places_of e);
    ends_of = λ s z. not_found z;
    known = λ f p h. not-read e h;
  }

  -- r is what the exit of a `?` returns
  pub refused-found : {table : List ℕ} {r : Layout} {x : Refusal} → Err x ≡ places_of (read_of (limits_of Γ) w) →
      IsErrAnd r (λ y. y ≡ x) → Called w Γ r table
  refused-found {table} {r} {x} e h =
      subst (λ (l : Layout). Called w Γ l table) (sym (exit {r = r} {w = Err x} h refl)) (refused-called (words-refused (limits_of Γ) w x e))

  pub refused-tabled : {before table : List ℕ} {r : Layout} {x : Refusal} → Called w Γ (Err x) before → IsErrAnd r (λ y. y ≡ x) →
      Tabled w Γ r table
  refused-tabled {table = table} {r} {x} c h =
      subst (λ (l : Layout). Tabled w Γ l table) (sym (exit {r = r} {w = Err x} h refl)) (refused-by (c.refused x refl))

  module _ {before : List ℕ} {s : Places} (h : Found w Γ s before) where
    abbrev it : ReadAt (read_of (limits_of Γ) w) s
    it = found-read (read_of (limits_of Γ) w) s h.found

    abbrev stood : FileStands (limits_of Γ) w it.file
    stood = read-file (limits_of Γ) w it.file it.end it.was_read

    -- the wrong calls of the file are those on words
    same-calls : wrong_at w before ≡ wrong_call w it.file.procedures
    same-calls = wrong_calls w before (limits_of Γ) it.file stood (h.starts it.file it.end it.was_read)

    pub wrong_called : {table : List ℕ} (at : ℕ) → Some at ≡ fault_place (first_place (wrong_at w before) (word_count w) 0) →
        Called w Γ (Err (refusal 16 at)) table
    wrong_called at e =
        refused-called (words-wrong (limits_of Γ) w it.file it.end at it.was_read
        (ap (λ t. first_place t (word_count w) 0) (sym same-calls) ∙ some-fault _ at e))

    module _
        (c : first_place (wrong_at w before) (word_count w) 0 ≡ none) {table : List ℕ} (m : TableMade w before table)
      where
        called : first_place (wrong_call w it.file.procedures) (word_count w) 0 ≡ none
        called = ap (λ t. first_place t (word_count w) 0) (sym same-calls) ∙ c

        starts-kept : StartsListed w table it.file
        starts-kept = starts-moved w before table m.starts it.file stood.few (h.starts it.file it.end it.was_read)

        called-file : MaskedFile w table (limits_of Γ) it.file
        called-file = record {
          stands = stood;
          called = called;
          masks = masks-known w table (ends-listed m.ends_of) (limits_of Γ) it.file stood called starts-kept m.made;
        }

        pub steady-tabled : FirstFound w table None → Tabled w Γ (Ok s) table
        steady-tabled f =
            let none = no-fault _ (f.place (limits_of Γ) it.file called-file) in
            let was = words-steady (limits_of Γ) w it.file it.end it.was_read called none in
            record {
              layout = ap Ok it.at ∙ sym (ap places_of was);
              ends_of = λ _ _. m.ends_of;
              known = λ g q z.
                  subst (KnownAt (limits_of Γ) w table) (words_back (limits_of Γ) w it.file g it.end q was z) (record {
                    starts = starts-kept;
                    masked = called-file;
                    procedures = λ low n l.
                        procedures-known w table (ends-listed m.ends_of) (limits_of Γ) it.file stood called starts-kept m.made low n l;
                  });
            }

        pub unsteady-tabled : (at : ℕ) → FirstFound w table (Some at) → Tabled w Γ (Err (refusal 7 at)) table
        unsteady-tabled at f =
            refused-by (words-unsteady (limits_of Γ) w it.file it.end at it.was_read called
            (some-fault _ at (f.place (limits_of Γ) it.file called-file)))

-- ---- refusal 1
pub bad-read : {bytes words table : List ℕ} (Γ : Context) → bad_length bytes ≡ true →
    FileRead bytes Γ (Err (refusal 1 0)) words table
bad-read {bytes} Γ h = record {
  layout = sym (ap places_of (bad-file (limits_of Γ) bytes h));
  size = λ s z. not_found z;
  from-words = λ s z. not_found z;
  loaded = λ s z. not_found z;
  inside = λ s z. not_found z;
  ends_of = λ s z. not_found z;
  known = λ f p z. not-read (bad-file (limits_of Γ) bytes h) z;
}

-- all words of a file whose byte count is good are loaded
pub loaded-all : {bytes words table after : List ℕ} {n : ℕ} → CanLoad bytes words table → bad_length bytes ≡ false →
    Loaded bytes words after n → AllLoaded bytes after n
loaded-all c h l = all-loaded h l (c.fits h)

pub loaded-room : {bytes words table after : List ℕ} {n : ℕ} → CanLoad bytes words table → bad_length bytes ≡ false →
    AllLoaded bytes after n → TableRoom (take n after) table
loaded-room c h l = record {
  size = l.size;
  room = let f = c.fits h in omega (arith, c.wide, l.count, l.few);
}

pub loaded-file : {bytes words table after table' : List ℕ} {Γ : Context} {n : ℕ} {r : Layout} →
    CanLoad bytes words table → bad_length bytes ≡ false → Loaded bytes words after n → Tabled (take n after) Γ r table' →
    FileRead bytes Γ r after table'
loaded-file {bytes} {after = after} {table'} {Γ} {n} {r} c h l t =
    let a = loaded-all c h l in
    let f = c.fits h in
    let whole : n ≡ length bytes / 4 = (loaded-words l (omega arith)).0 in
    record {
      layout = t.layout ∙ ap (λ z. places_of (words_read (limits_of Γ) z)) a.words
          ∙ sym (ap places_of (good-file (limits_of Γ) bytes h));
      size = λ s e. good_length bytes h;
      from-words = λ s e. good-file (limits_of Γ) bytes h;
      loaded = λ s e. subst (λ k. take k after ≡ words_of bytes) whole a.words;
      inside = λ s e. subst (λ k. k ≤ length after) whole a.inside;
      ends_of = λ s e. subst (λ z. EndsOf z table') a.words (t.ends_of s e);
      known = λ f p e.
          subst (λ z. KnownAt (limits_of Γ) z table' f) a.words
          (t.known f p (ap (words_read (limits_of Γ)) a.words ∙ sym (good-file (limits_of Γ) bytes h) ∙ e));
    }

-- ---- the words of a file that refusals 1 to 7 let pass, as a caller has them
pub record Words (bytes : List ℕ) (Γ : Context) (s : Places) (words table : List ℕ) : Type 0 where
  pub count : length bytes / 4 ≡ length (take (length bytes / 4) words)
  pub inside : length bytes / 4 ≤ length words
  pub size : length (take (length bytes / 4) words) ≤ 8192
  pub ends_of : EndsOf (take (length bytes / 4) words) table
  pub was_read : Ok s ≡ places_of (words_read (limits_of Γ) (take (length bytes / 4) words))
  pub of-file : words_read (limits_of Γ) (take (length bytes / 4) words) ≡ bytes_read (limits_of Γ) bytes
  pub known : (f : File) (p : ℕ) → bytes_read (limits_of Γ) bytes ≡ read f p →
      KnownAt (limits_of Γ) (take (length bytes / 4) words) table f

pub file-words : {bytes words table : List ℕ} {Γ : Context} {r : Layout} {s : Places} →
    FileRead bytes Γ r words table → r ≡ Ok s → Words bytes Γ s words table
file-words {bytes} {words} {table} {Γ} {r} {s} f e =
    let w = f.loaded s e in
    let long : length (take (length bytes / 4) words) ≡ length bytes / 4 = ap length w ∙ words-length bytes in
    let small = f.size s e in
    let same : words_read (limits_of Γ) (take (length bytes / 4) words) ≡ bytes_read (limits_of Γ) bytes =
    ap (words_read (limits_of Γ)) w ∙ sym (f.from-words s e) in
    record {
      count = sym long;
      inside = f.inside s e;
      size = omega (arith, long, small);
      ends_of = subst (λ z. EndsOf z table) (sym w) (f.ends_of s e);
      was_read = sym e ∙ f.layout ∙ ap places_of (sym same);
      of-file = same;
      known = λ g p z. subst (λ l. KnownAt (limits_of Γ) l table g) (sym w) (f.known g p z);
    }
