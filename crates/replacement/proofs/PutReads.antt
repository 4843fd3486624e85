-- The workbench call up to the reading of the file.
-- Assumes nothing.
--     read_count, read-room, read_right     what refusals 2 to 6 and 16 leave
--     can-replace, unsteady-put             7 lets the words pass; 7
--     bad-put, called-put                   1; 2 to 6 and 16
--     loaded-rooms                          the words that were loaded, in their room
use mathlib.Core.Path.{◌≡◌, refl, sym, ap, subst, ◌∙◌}
use Rattle.std.specs.Prelude.{Ok, Err}
use mathlib.Core.Bool.{Bool, true, false}
use mathlib.Core.List.{List}
use Prim.Native.Nat.{ℕ, ◌/◌, ◌≤◌}
use native.Mathlib.Omega.{arith}
use lib.ListN.{length, take}
use Rattle.layout.specs.Bytes.{words_of}
use Rattle.layout.specs.File.{bad_length, bytes_read, words_read}
use Rattle.words.proofs.Loading.{words-length, loaded-words}
use Rattle.words.specs.Load.{Loaded}
use Rattle.words.proofs.Lengths.{good_length, good-file, bad-file}
use Rattle.scan.specs.ForsMask.{ForsFound}
use Rattle.scan.specs.declared.for_mask.Fors.{Fors}
use Rattle.masks.specs.WithMasks.{few_numbers}
use Rattle.context.specs.Contexts.{limits_of, Settable, refusal}
use Rattle.context.specs.declared.Context.{Context}
use Rattle.context.specs.declared.Refusal.{Refusal}
use Rattle.reader.specs.declared.Places.{Places}
use Rattle.reader.specs.Program.{Layout}
use Rattle.file.specs.Found.{CallsRight, Called, TableRoom, CanLoad}
use Rattle.file.proofs.Found.{found-read}
use Rattle.file.proofs.Files.{loaded-all}
use Rattle.splice.specs.Walk.{Rooms}
use Rattle.splice.proofs.Splice.{spliced-length}
use Rattle.changed_file.specs.Tables.{StartsKept, Steadied}
use Rattle.changed_file.proofs.Tables.{found_none, same-file, kept_on, right-moved, steadied-again}
use Rattle.replacement.specs.Put.{Replaced, PutDone}
use Rattle.replacement.specs.Steps.{CanRead, CanReplace}
use Rattle.replacement.proofs.Puts.{unread-put, refused-read}

-- ---- refusals 2 to 6 and 16 let the words pass
module _ {Γ : Context} {bytes : List ℕ} (lent : List ℕ) {words table : List ℕ} {s : Places} {both : Bool} {place : ℕ} {new : List ℕ}
    (c : CanRead Γ bytes (length lent) place new words table s both) where
  abbrev w : List ℕ
  w = take (length bytes / 4) words

  pub read_count : length bytes / 4 ≡ length w
  read_count = sym (ap length c.walk.rooms.loaded ∙ words-length bytes)

  pub read-room : TableRoom w table
  read-room = record {
    size = omega (arith, good_length bytes c.walk.good, read_count);
    room = omega (arith, read_count, c.walk.rooms.inside, c.walk.rooms.wide);
  }

  pub read_right : CallsRight w Γ s table
  read_right = subst (λ l. CallsRight l Γ s table) (sym c.walk.rooms.loaded) c.right

  from-words : bytes_read (limits_of Γ) bytes ≡ words_read (limits_of Γ) (words_of bytes)
  from-words = good-file (limits_of Γ) bytes c.walk.good

  module _ {filled after : List ℕ} {r : Layout} (k : StartsKept w table filled) (t : Steadied w Γ s r filled after) where
    steadied : Steadied (words_of bytes) Γ s r filled after
    steadied = subst (λ l. Steadied l Γ s r filled after) c.walk.rooms.loaded t

    pub can-replace : {z : Places} {fors : Fors} → r ≡ Ok z → length after ≡ length table → ForsFound w fors →
        CanReplace Γ bytes (length lent) place new words after s both fors
    can-replace {z} {fors} e n f =
        let x = found-read (words_read (limits_of Γ) (words_of bytes)) z (sym e ∙ steadied.layout) in
        let y = same-file steadied.marked x.was_read in
        record {
          old = record {
            contents = x.file;
            end = x.end;
            was_read = from-words ∙ x.was_read;
            settable = c.settable;
            enough = c.enough;
          };
          rooms = record { loaded = c.walk.rooms.loaded; inside = c.walk.rooms.inside; wide = omega (arith, c.walk.rooms.wide, n) };
          marked = steadied.marked;
          masked = (steadied-again steadied).masked x.file x.end x.was_read;
          was_read = found_none steadied.marked y.1;
          fors_of = subst (λ l. ForsFound l fors) c.walk.rooms.loaded f;
          new-right = λ b.
              let y = c.new-right b in
              record {
                within = y.within;
                simple = y.simple;
                right =
                    right-moved
                    (spliced-length (words_of bytes) place (words_of new) y.within ∙ sym (ap length c.walk.rooms.loaded))
                    (kept_on k t.starts) y.right;
              };
        }

    pub unsteady-put : {x : Refusal} {q : Replaced} → r ≡ Err x → q ≡ Err x → PutDone (limits_of Γ) bytes lent place new q bytes lent
    unsteady-put {x} e =
        unread-put (limits_of Γ) bytes lent place new c.settable c.enough
        (from-words ∙ refused-read (words_read (limits_of Γ) (words_of bytes)) x (sym e ∙ steadied.layout))

-- ---- refusal 1, and 2 to 6 and 16
module _ (Γ : Context) {bytes : List ℕ} (lent : List ℕ) (place : ℕ) (new : List ℕ) (settable : Settable Γ)
    (enough : few_numbers bytes (length lent) ≡ false) where
  pub bad-put : {r : Replaced} → bad_length bytes ≡ true → r ≡ Err (refusal 1 0) →
      PutDone (limits_of Γ) bytes lent place new r bytes lent
  bad-put h = unread-put (limits_of Γ) bytes lent place new settable enough (bad-file (limits_of Γ) bytes h)

  pub called-put : {table : List ℕ} {x : Refusal} {q : Replaced} → bad_length bytes ≡ false → Called (words_of bytes) Γ (Err x) table →
      q ≡ Err x → PutDone (limits_of Γ) bytes lent place new q bytes lent
  called-put {x = x} good k =
      unread-put (limits_of Γ) bytes lent place new settable enough (good-file (limits_of Γ) bytes good ∙ k.refused x refl)

-- the words that were loaded, in their room
pub loaded-rooms : {bytes words table after : List ℕ} {n : ℕ} → CanLoad bytes words table → bad_length bytes ≡ false →
    Loaded bytes words after n → length after ≡ length words → Rooms bytes after table
loaded-rooms {bytes} {after = after} can good l e =
    let a = loaded-all can good l in
    let f = can.fits good in
    let whole = (loaded-words l (omega arith)).0 in
    record {
      loaded = subst (λ i. take i after ≡ words_of bytes) whole a.words;
      inside = subst (λ i. i ≤ length after) whole a.inside;
      wide = omega (arith, can.wide, e);
    }
